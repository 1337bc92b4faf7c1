-- What the first bytes of a character tell.
use Rattle.std.proofs.Common.{rules}
use Rattle.tokens.proofs.Inks.{ink-one, ink-low, ink-two, ink-three, ink-past, ink-four}
use Rattle.tokens.proofs.scan.ink_width.Goals as goal

pub returns-then-first-ge33 : goal.returns-then-first-ge33
returns-then-first-ge33 c = ink-one c.args.bytes.now c.args.at (search rules)

pub returns-then-first-lt9 : goal.returns-then-first-lt9
returns-then-first-lt9 c = ink-low c.args.bytes.now c.args.at (search rules)

pub returns-then-first-lt240 : goal.returns-then-first-lt240
returns-then-first-lt240 c = ink-three c.args.bytes.now c.args.at (search rules) (search rules)

pub returns-else-first-lt240 : goal.returns-else-first-lt240
returns-else-first-lt240 c = ink-four c.args.bytes.now c.args.at (search rules)

pub returns-then-first-lt224 : goal.returns-then-first-lt224
returns-then-first-lt224 c = ink-two c.args.bytes.now c.args.at (search rules) (search rules)

pub returns-then-bytes-at-gt128 : goal.returns-then-bytes-at-gt128
returns-then-bytes-at-gt128 c = ink-past c.args.bytes.now c.args.at (search rules) (search rules)
