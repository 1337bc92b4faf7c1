-- What the answer of compile says, by the definitions.
use Rattle.std.specs.Prelude.{ℕ, List, Result, Ok, Err}
use Rattle.stack_assembly.specs.Script.{CompileAnswer, Compilation, accepted, rejected, CompileError}
use Rattle.records.specs.declared.counts.Counts.{Counts}

abbrev pub compiled_answer : Result Counts CompileError → CompileAnswer
compiled_answer (Ok counts) = accepted counts.operators counts.labels
compiled_answer (Err e) = rejected e

-- With both tables after it.
abbrev pub compilation : Result Counts CompileError → (operators labels : List ℕ) → Compilation
compilation r os ls = record { answer = compiled_answer r; operators = os; labels = ls }
