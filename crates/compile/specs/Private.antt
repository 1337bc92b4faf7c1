-- What the private functions ask and promise; no public contract cites it.
use Rattle.std.specs.Prelude.{ℕ, ◌+◌, ◌*◌, ◌/◌, ◌≤◌, cond, List, [], ◌∷◌, map, ◌≡◌, ltb, length, Option, Some, None}
use Rattle.std.proofs.lemmas.List.Edits.{sets}
use Rattle.kinds.specs.declared.kind.Kind.{Kind}
use Rattle.kinds.specs.declared.kind.Kind.TheVariants.{Label, Reference, Integer, Identifier}
use Rattle.kinds.specs.Kinds.{kind_of}
use Rattle.kinds.specs.Answers.{kind_answer}
use Rattle.stack_assembly.specs.Script.{script_of, operator_words, label_words, operator_capacity, label_capacity}
use Rattle.records.specs.declared.counts.Counts.{Counts}

-- The words of an operator's record, by its kind; a label has none.
abbrev pub words_by : Kind → (start end : ℕ) → Option (List ℕ)
words_by Label start end = None
words_by Reference start end = Some (2 ∷ start ∷ end ∷ 0 ∷ [])
words_by (Integer bits) start end = Some (1 ∷ start ∷ end ∷ bits ∷ [])
words_by Identifier start end = Some (0 ∷ start ∷ end ∷ 0 ∷ [])

-- The words of a token's record as an operator.
abbrev pub record_of : (token : List ℕ) (start end : ℕ) → Option (List ℕ)
record_of token start end = words_by (kind_answer (kind_of token)) start end

-- A record of so many words at its place in the table, where that is in the table.
unfoldable pub put : (width : ℕ) (table : List ℕ) (index : ℕ) (words : List ℕ) → List ℕ
put width table index words = cond (ltb index (length table / width)) (sets table (index * width) words) table

-- Records one after the other, from a place on.
unfoldable pub puts : (width : ℕ) (table : List ℕ) (index : ℕ) (records : List (List ℕ)) → List ℕ
puts width table index [] = table
puts width table index (r ∷ later) = puts width (put width table index r) (index + 1) later

-- One pass: the counts, and the records that fit.
pub record Passes (text operators labels : List ℕ) (counts : Counts) (operators' labels' : List ℕ) : Type 0 where
  pub operator_count : counts.operators ≡ length (script_of text).operators
  pub label_count : counts.labels ≡ length (script_of text).labels
  pub operator_table : operators' ≡ puts 4 operators 0 (map operator_words (script_of text).operators)
  pub label_table : labels' ≡ puts 3 labels 0 (map label_words (script_of text).labels)

-- Room for a text's records in both tables.
pub record HasRoom (text operators labels : List ℕ) : Type 0 where
  pub operators_fit : length (script_of text).operators ≤ operator_capacity operators
  pub labels_fit : length (script_of text).labels ≤ label_capacity labels
