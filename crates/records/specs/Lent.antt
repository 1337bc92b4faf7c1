-- What the code's tables and its script say, by the definition.
use Rattle.std.specs.Prelude.{ℕ, List, true, false, Result, MatchResult, ◌≡◌}
use Rattle.stack_assembly.specs.Script.{Script, Tables, script_in, operator_capacity, label_capacity, over_capacity}
use Rattle.records.specs.declared.record.OverCapacity.{OverCapacity}
use Rattle.records.specs.declared.script.Script as script
use Rattle.records.specs.declared.tables.Tables as tables

abbrev pub tables_of : tables.Tables → Tables
tables_of t =
    record {
      text = t.text.now;
      operators = t.operators.now;
      labels = t.labels.now;
      operator_count = t.operator_count;
      label_count = t.label_count;
    }

-- A text with tables that are full.
abbrev pub full : (text operators labels : List ℕ) → Tables
full text operators labels =
    record {
      text = text;
      operators = operators;
      labels = labels;
      operator_count = operator_capacity operators;
      label_count = label_capacity labels;
    }

-- What a script says: all that a step reads of it.
abbrev pub says : script.Script → Script
says s = script_in (full s.text.now s.operators.now s.labels.now)

-- The script that they hold, or the error where a count is over its capacity.
abbrev pub HasScript : Tables → Result script.Script OverCapacity → Type 0
HasScript t r = MatchResult r (λ s. (over_capacity t ≡ false) × (says s ≡ script_in t)) (λ _. over_capacity t ≡ true)
