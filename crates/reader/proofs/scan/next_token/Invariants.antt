-- What is left to find is what was asked.
use Rattle.std.proofs.Common.{length, ◌-◌}
use Rattle.reader.proofs.Turns.{Left}
use Rattle.reader.proofs.scan.next_token.Given as goal

abbrev pub invariant-loop-at : goal.invariant-loop-at
invariant-loop-at l = Left l.text l.from l.state l.at

abbrev pub decreases-loop-at : goal.decreases-loop-at
decreases-loop-at l = length l.text - l.at
