-- A record of the code, by the definition; and the one that stands at an index of a table, by its words.
use Rattle.std.specs.Prelude.{ℕ, ◌+◌, ◌*◌, List, get_or}
use Rattle.stack_assembly.specs.Script.{Operator, operator, Label}
use Rattle.records.specs.declared.operator.OperatorKind.{OperatorKind}
use Rattle.records.specs.declared.operator.OperatorKind.TheVariants.{Identifier, Integer, Reference}
use Rattle.records.specs.declared.operator.OperatorRecord.{OperatorRecord}
use Rattle.records.specs.declared.label.LabelRecord.{LabelRecord}

-- The first word of an operator's record.
abbrev pub kind_word : OperatorKind → ℕ
kind_word Identifier = 0
kind_word Integer = 1
kind_word Reference = 2

abbrev pub operator_of : OperatorRecord → Operator
operator_of r = operator (kind_word r.kind) r.start r.end r.value

abbrev pub label_of : LabelRecord → Label
label_of r = record { start = r.start; end = r.end; operator = r.operator }

-- The records whose words stand at an index of a table.
abbrev pub operator_at : (i : ℕ) (table : List ℕ) → Operator
operator_at i table = operator (get_or table (i * 4) 0) (get_or table (i * 4 + 1) 0) (get_or table (i * 4 + 2) 0) (get_or table (i * 4 + 3) 0)

abbrev pub label_at : (i : ℕ) (table : List ℕ) → Label
label_at i table = record { start = get_or table (i * 3) 0; end = get_or table (i * 3 + 1) 0; operator = get_or table (i * 3 + 2) 0 }
