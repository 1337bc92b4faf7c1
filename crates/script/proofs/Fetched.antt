-- The next operator, by what its record says.
use Rattle.std.proofs.Common.{◌≡◌, ℕ, List, ◌+◌, ◌-◌, ◌/◌, ◌≤◌, ◌<◌, true, false, cond, length, take, drop, refl, sym, subst, arith}
use Rattle.std.specs.Prelude.{leb, ltb}
use Rattle.std.proofs.lemmas.Bool.{lt-leb, le-ltb}
use Rattle.std.proofs.lemmas.List.{drop-take, take_rest}
use Rattle.std.proofs.Math.Seq.{drop-drop}
use Rattle.base.proofs.Parts.{between}
use Rattle.stack_assembly.specs.Script.{Operator, part, damaged_operator, operator_in, operator_capacity, script_in}
use Rattle.stack_assembly.specs.Step.{word, past, damaged, pushes, resolved, identified, of_kind, fetched_from, fetched}
use Rattle.stack_assembly.specs.Words.{Word, words, lookup}
use Rattle.words.specs.Places.{Spells}
use Rattle.records.specs.declared.operator.OperatorRecord.{OperatorRecord}
use Rattle.records.specs.declared.operator.OperatorKind.TheVariants.{Identifier, Integer, Reference}
use Rattle.records.specs.Records.{operator_of, operator_at}
use Rattle.records.proofs.InTable.{no_more, next-operator}
use Rattle.records.specs.declared.script.Script as code
use Rattle.records.specs.Lent.{says}
use Rattle.script.specs.Private.{labels_said}

-- a source without its first byte
abbrev rest : List ℕ → List ℕ
rest source = take (length source - 1) (drop 1 source)

after_first : (text : List ℕ) (start end : ℕ) → start < end → drop 1 (take (end - start) (drop start text)) ≡ part text (start + 1) end
after_first text start end h =
    let n : end - start ≡ 1 + (end - (start + 1)) = omega arith in
    rw (n, drop-take 1 (end - (start + 1)) (drop start text), drop-drop 1 start text, between (start + 1) end text)

module _ (s : code.Script) (next : ℕ) where
  pub past_there : length s.operators.now / 4 ≤ next → fetched (says s) next ≡ past
  unfolding fetched fetched_from script_in
  past_there h = rw (no_more 4 operator_in (operator_capacity s.operators.now) s.operators.now next h)

  here : (o : Operator) → next < length s.operators.now / 4 → operator_at next s.operators.now ≡ o
      → fetched (says s) next ≡ cond (damaged_operator s.text.now o) (damaged next) (of_kind o.kind (says s) o)
  unfolding fetched fetched_from script_in
  here o there is = rw (next-operator (operator_capacity s.operators.now) next s.operators.now there, ← is)

  module _ (there : next < length s.operators.now / 4) where
    pub damaged_there : damaged_operator s.text.now (operator_at next s.operators.now) ≡ true → fetched (says s) next ≡ damaged next
    damaged_there t = rw (here (operator_at next s.operators.now) there refl, t)

    module _ (r : OperatorRecord) (is : operator_at next s.operators.now ≡ operator_of r) (whole : damaged_operator s.text.now (operator_at next s.operators.now) ≡ false) where
      whole_there : fetched (says s) next ≡ of_kind (operator_of r).kind (says s) (operator_of r)
      whole_there = let P : Operator → Type 0 = λ o. damaged_operator s.text.now o ≡ false in rw (here (operator_of r) there is, subst P is whole)

      pub identifier_there : r.kind ≡ Identifier → fetched (says s) next ≡ identified (lookup (take (r.end - r.start) (drop r.start s.text.now)) words)
      unfolding of_kind script_in
      identifier_there e = rw (whole_there, e, between r.start r.end s.text.now)

      pub integer_there : r.kind ≡ Integer → fetched (says s) next ≡ pushes r.value
      unfolding of_kind
      integer_there e = rw (whole_there, e)

      pub reference_there : r.kind ≡ Reference → r.start < r.end
          → fetched (says s) next ≡ resolved s.text.now (rest (take (r.end - r.start) (drop r.start s.text.now))) 0 (labels_said s.labels.now)
      unfolding of_kind script_in labels_said
      reference_there e has_mark = rw (whole_there, e, take_rest (take (r.end - r.start) (drop r.start s.text.now)) 1, after_first s.text.now r.start r.end has_mark)

  -- ---- by its raw words

  module _ (o : Operator) (there : next < length s.operators.now / 4) (is : o ≡ operator_at next s.operators.now) where
    raw-there : ltb 2 o.kind ≡ false → leb o.end o.start ≡ false → ltb (length s.text.now) o.end ≡ false → fetched (says s) next ≡ of_kind o.kind (says s) o
    raw-there k r i = rw (here o there (sym is), k, r, i)

    pub raw_integer : o.kind ≡ 1 → o.start < o.end → o.end ≤ length s.text.now → fetched (says s) next ≡ pushes o.value
    unfolding of_kind
    raw_integer e r i = rw (raw-there (rw e refl) (lt-leb o.end o.start r) (le-ltb (length s.text.now) o.end i), e)

    pub raw_word : {w : Word} → o.kind ≡ 0 → Spells s.text.now o.start o.end w → fetched (says s) next ≡ word w
    unfolding of_kind script_in
    raw_word e spelled =
        rw (raw-there (rw e refl) (lt-leb o.end o.start spelled.0) (le-ltb (length s.text.now) o.end spelled.1), e, ← between o.start o.end s.text.now, spelled.2)
