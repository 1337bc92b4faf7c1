-- The source of an operator, by the tests that lead there.
use Rattle.std.proofs.Common.{◌≡◌, ℕ, ◌+◌, ◌*◌, ◌/◌, ◌≤◌, ◌<◌, true, false, List, length, take, map, drop, get_or, get_or-take, refl, sym, ap, ◌∙◌, arith}
use Rattle.std.proofs.lemmas.Bool.{lt-ltb, le-ltb}
use Rattle.stack_assembly.specs.Answer.{answer, Forged, Damaged, Absent}
use Rattle.stack_assembly.specs.Script.{Operator, operator_in, records_in, damaged_operator, part}
use Rattle.stack_assembly.specs.Beside.{no_source, source_from, source}
use Rattle.records.specs.Records.{operator_at}
use Rattle.records.specs.Source.{located_by}
use Rattle.records.proofs.Counted.{words_fit}
use Rattle.records.proofs.InTable.{no_more, next-operator, lent_records, lent_count}

module _ (count : ℕ) (text table : List ℕ) (index : ℕ) where
  pub forged : length table / 4 < count → source count text table index ≡ no_source Forged
  unfolding source
  forged h = rw (lt-ltb (length table / 4) count h)

  -- by the records that count
  module _ (operators : List ℕ) (fits : count ≤ length table / 4) (counted : operators ≡ take (4 * count) table) where
    as_many : length operators / 4 ≡ count
    as_many = rw counted (lent_count 4 count table (omega arith) (words_fit 4 _ _ fits))

    here : source count text table index ≡ source_from text index (drop index (map operator_in (records_in 4 (length operators / 4) operators)))
    unfolding source
    here = rw (as_many, counted, lent_records 4 count table, le-ltb (length table / 4) count fits)

    pub absent : count ≤ index → source count text table index ≡ no_source (Absent index)
    unfolding source_from
    absent h = rw (here, no_more 4 operator_in (length operators / 4) operators index (rw as_many h))

    module _ (small : index < count) where
      pub within : index < length operators / 4
      within = rw as_many small

      word : (j : ℕ) → j < 4 * count → get_or operators j 0 ≡ get_or table j 0
      word j h = rw counted (get_or-take (4 * count) table j 0 h)

      same_record : operator_at index operators ≡ operator_at index table
      same_record =
          rw (word (index * 4) (omega arith), word (index * 4 + 1) (omega arith), word (index * 4 + 2) (omega arith), word (index * 4 + 3) (omega arith)) refl

      pub damaged : damaged_operator text (operator_at index operators) ≡ true → source count text table index ≡ no_source (Damaged index)
      unfolding source_from
      damaged e = rw (here, next-operator (length operators / 4) index operators within, e)

      pub whole : damaged_operator text (operator_at index operators) ≡ false
          → source count text table index ≡ record { answer = answer 0 0 0; bytes = part text (operator_at index operators).start (operator_at index operators).end }
      unfolding source_from
      whole e = rw (here, next-operator (length operators / 4) index operators within, e)

      pub there_at : (o : Operator) → operator_at index operators ≡ o → damaged_operator text (operator_at index operators) ≡ false
          → located_by (source count text table index).answer (operator_at index table) ≡ record { answer = answer 0 0 0; start = o.start; end = o.end }
      there_at o is e = rw (whole e) (ap (λ (x : Operator). located_by (answer 0 0 0) x) (sym same_record ∙ is))
