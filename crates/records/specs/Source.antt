-- What the answer about the source of an operator says, by the definitions.
use Rattle.std.specs.Prelude.{ℕ, zero, suc, List, [], Result, Ok, Err}
use Rattle.std.specs.declared.ops.Range.{Range}
use Rattle.stack_assembly.specs.Answer.{Answer, answer, refused, Refusal}
use Rattle.stack_assembly.specs.Script.{Operator, Tables, part}
use Rattle.stack_assembly.specs.Beside.{Source, source}
use Rattle.records.specs.Records.{operator_at}

-- Where an operator's source stands in the text, with the answer about it; 0 to 0 where there is none.
pub record Located : Type 0 where
  pub answer : Answer
  pub start : ℕ
  pub end : ℕ

abbrev pub located : Result (Range ℕ) Refusal → Located
located (Ok range) = record { answer = answer 0 0 0; start = range.start; end = range.end }
located (Err e) = record { answer = refused e 0; start = 0; end = 0 }

-- The source itself, which is empty where there is none.
abbrev pub bytes_in : (text : List ℕ) → Result (Range ℕ) Refusal → List ℕ
bytes_in text (Ok range) = part text range.start range.end
bytes_in text (Err e) = []

-- A word of an operator's record, where the answer is 0.
abbrev pub unless_refused : (number word : ℕ) → ℕ
unless_refused zero word = word
unless_refused (suc number) word = 0

-- The source of an operator in what is lent of a script.
abbrev pub source_of : Tables → (index : ℕ) → Source
source_of t index = source t.operator_count t.text t.operators index

-- The range of a record, where it is answered.
abbrev pub located_by : Answer → Operator → Located
located_by a o = record { answer = a; start = unless_refused a.number o.start; end = unless_refused a.number o.end }

-- Where the source stands: the range of the record at the index.
abbrev pub source_at : Tables → (index : ℕ) → Located
source_at t index = located_by (source_of t index).answer (operator_at index t.operators)
