-- Two bytes that follow, or none.
use Rattle.reader.proofs.Fronts.{missing, passed, failed, short_three, at_three}
use Rattle.reader.proofs.chars.three.Goals as goal

pub returns-then-bytes-lt3 : goal.returns-then-bytes-lt3
returns-then-bytes-lt3 c = missing _ (short_three _ c.requires c.if-bytes-lt3.true)

pub returns-then-within : goal.returns-then-within
returns-then-within c =
    passed _ _ (rw (← c.second_low.ensures, ← c.second_high.ensures, ← c.within.ensures, ← c.within-2.ensures) at (at_three c.args.bytes.now c.requires c.if-bytes-lt3.false)) c.char_of.ensures c.if-within.true

pub returns : goal.returns
returns c =
    failed _ _ (rw (← c.second_low.ensures, ← c.second_high.ensures, ← c.within.ensures, ← c.within-2.ensures) at (at_three c.args.bytes.now c.requires c.if-bytes-lt3.false)) c.if-within.false
