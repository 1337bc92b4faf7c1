-- A byte that follows, or none.
use Rattle.std.proofs.Common.{sym, ◌∙◌}
use Rattle.reader.proofs.Fronts.{missing, passed, failed, short_two, at_two}
use Rattle.reader.proofs.chars.two.Goals as goal

pub returns-then-bytes-lt2 : goal.returns-then-bytes-lt2
returns-then-bytes-lt2 c = missing _ (short_two _ c.requires c.if-bytes-lt2.true)

pub returns-then-within : goal.returns-then-within
returns-then-within c = passed _ _ (at_two _ c.requires c.if-bytes-lt2.false) c.char_of.ensures (sym c.within.ensures ∙ c.if-within.true)

pub returns : goal.returns
returns c = failed _ _ (at_two _ c.requires c.if-bytes-lt2.false) (sym c.within.ensures ∙ c.if-within.false)
