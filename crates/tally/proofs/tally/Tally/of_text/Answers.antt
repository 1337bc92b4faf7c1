-- `Tally::of_text` of src/tally.rt meets its contract.
use Rattle.std.proofs.Common.{refl}
use Rattle.tally.proofs.Tallying.{tallies, refused, prefix, ran}
use Rattle.tally.proofs.tally.Tally.of_text.Goals as goal

pub slice_bounds-result-end-in-Ok : goal.slice_bounds-result-end-in-Ok
slice_bounds-result-end-in-Ok c = prefix _ _ c.in-Ok.ensures.accepted c.in-Ok.ensures.begun c.run-ran.ensures.called

pub returns-in-Err : goal.returns-in-Err
returns-in-Err c = tallies _ _ _ (refused _ _ c.in-Err.error c.number.ensures c.value.ensures c.in-Err.ensures)

pub returns-in-Ok : goal.returns-in-Ok
returns-in-Ok c = tallies _ _ _ (ran _ _ c.in-Ok.ensures.accepted c.in-Ok.ensures.begun c.run-ran.ensures.called c.into.ensures refl)
