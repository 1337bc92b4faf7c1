-- The labels passed are whole, and have other names.
use Rattle.std.proofs.Common.{◌≡◌}
use Rattle.script.proofs.Resolved.{left}
use Rattle.script.proofs.fetch.resolve.Given as goal

abbrev pub invariant-loop-i : goal.invariant-loop-i
invariant-loop-i l = left l.text l.labels l.name 0 ≡ left l.text l.labels l.name l.i
