-- The labels of a table that is full.
use Rattle.std.specs.Prelude.{ℕ, List, map}
use Rattle.stack_assembly.specs.Script.{Label, label_in, records_in, label_capacity}

unfoldable pub labels_said : (labels : List ℕ) → List Label
labels_said labels = map label_in (records_in 3 (label_capacity labels) labels)
