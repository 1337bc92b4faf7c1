-- Three bytes that follow, or none.
use Rattle.reader.proofs.Fronts.{missing, passed, failed, short_four, at_four}
use Rattle.reader.proofs.chars.four.Goals as goal

pub returns-then-bytes-lt4 : goal.returns-then-bytes-lt4
returns-then-bytes-lt4 c = missing _ (short_four _ c.requires c.if-bytes-lt4.true)

pub returns-then-within : goal.returns-then-within
returns-then-within c =
    passed _ _ (rw (← c.second_low.ensures, ← c.second_high.ensures, ← c.within.ensures, ← c.within-2.ensures, ← c.within-3.ensures) at (at_four c.args.bytes.now c.requires c.if-bytes-lt4.false)) c.char_of.ensures c.if-within.true

pub returns : goal.returns
returns c =
    failed _ _ (rw (← c.second_low.ensures, ← c.second_high.ensures, ← c.within.ensures, ← c.within-2.ensures, ← c.within-3.ensures) at (at_four c.args.bytes.now c.requires c.if-bytes-lt4.false)) c.if-within.false
