-- What either word begins with is what the text has there; and if neither does, none is there.
use Rattle.std.proofs.Common.{refl}
use Rattle.words.proofs.Short.{spells, none_short, too_short}
use Rattle.words.proofs.word.Word.short.Goals as goal

pub returns-in_err-bytes : goal.returns-in_err-bytes
returns-in_err-bytes c = absurd (too_short c.args.text.now c.args.start c.requires c.in_err-bytes.ensures.cases)

pub returns-then-begins : goal.returns-then-begins
returns-then-begins c = spells _ _ _ _ c.requires c.ranges.start.fits c.ranges.end.fits c.in_ok-bytes.ensures.cases.same _ c.if-begins.ensures

pub returns-then-begins-2 : goal.returns-then-begins-2
returns-then-begins-2 c = spells _ _ _ _ c.requires c.ranges.start.fits c.ranges.end.fits c.in_ok-bytes.ensures.cases.same _ c.if-begins-2.ensures

pub returns : goal.returns
returns c =
    none_short _ _ _ _ c.requires c.ranges.start.fits c.ranges.end.fits c.in_ok-bytes.ensures.cases.same _ c.place_of-place.result refl c.place_of-place.ensures
    (rw c.placed-likely.ensures at c.if-begins.ensures) (rw c.placed-other.ensures at c.if-begins-2.ensures)
