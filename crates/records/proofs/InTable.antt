-- The records of a table, one by one: each law over the width of a record. A table that is lent up to its last record holds the same ones.
use Prim.Native.Nat.{ℕ, zero, suc, ◌+◌, ◌*◌, ◌/◌, ◌≤◌, ◌<◌}
use Rattle.std.specs.Prelude.{false}
use mathlib.Core.List.{List, [], ◌∷◌, map}
use mathlib.Core.Path.{◌≡◌, refl, ap, ◌∙◌}
use native.Mathlib.Nat.{add-zero, zero-mul, mul-suc, suc-mul, mul-div_cancel_left}
use native.Mathlib.Omega.{arith}
use lib.ListN.{length, get_or, take, drop, drop_of_length-le, length-map, get_or-map}
use lib.Seq.{drop-cons, drop-drop, get_or-take, get_or-drop, take-take, length-take-le}
use Rattle.std.proofs.lemmas.Bool.{le-ltb}
use Rattle.std.proofs.lemmas.List.{drop-take}
use Rattle.stack_assembly.specs.Script.{Tables, operator_in, label_in, records_in, script_in}
use Rattle.records.specs.Records.{operator_at, label_at}
use Rattle.stack_assembly.specs.Script.{over_capacity}
use Rattle.records.specs.Lent.{full}
use Rattle.records.proofs.Counted.{words_fit}

-- ---- one by one

records_length : (width count : ℕ) (table : List ℕ) → length (records_in width count table) ≡ count
unfolding records_in
records_length width zero table = refl
records_length width (suc n) table = ap suc (records_length width n (drop width table))

record_at : (width count i : ℕ) (table : List ℕ) → i < count → get_or (records_in width count table) i [] ≡ take width (drop (i * width) table)
unfolding records_in
record_at width zero i table h = absurd (omega arith)
record_at width (suc n) zero table h = rw (zero-mul width)
record_at width (suc n) (suc i) table h =
    let e : width + i * width ≡ suc i * width = rw (suc-mul i width) (omega arith) in
    record_at width n i (drop width table) (omega arith) ∙ rw (drop-drop (i * width) width table, e)

module _ {R : Type 0} (width : ℕ) (record_of : List ℕ → R) (count : ℕ) (table : List ℕ) where
  all-length : length (map record_of (records_in width count table)) ≡ count
  all-length = length-map (records_in width count table) record_of ∙ records_length width count table

  pub no_more : (i : ℕ) → count ≤ i → drop i (map record_of (records_in width count table)) ≡ []
  no_more i h = drop_of_length-le (map record_of (records_in width count table)) {i = i} (rw all-length h)

  next_record : (i : ℕ) → i < count
      → drop i (map record_of (records_in width count table))
      ≡ record_of (take width (drop (i * width) table)) ∷ drop (suc i) (map record_of (records_in width count table))
  next_record i h =
      drop-cons (map record_of (records_in width count table)) i (record_of []) (rw all-length h)
      ∙ rw (get_or-map record_of (records_in width count table) i [], record_at width count i table h)

word_at : (width i k : ℕ) (table : List ℕ) → k < width → get_or (take width (drop (i * width) table)) k 0 ≡ get_or table (i * width + k) 0
word_at width i k table h = get_or-take width (drop (i * width) table) k 0 h ∙ get_or-drop (i * width) table k 0

first_word_at : (width i : ℕ) (table : List ℕ) → 0 < width → get_or (take width (drop (i * width) table)) 0 0 ≡ get_or table (i * width) 0
first_word_at width i table h = word_at width i 0 table h ∙ rw add-zero

module _ (count i : ℕ) (table : List ℕ) (h : i < count) where
  pub next-operator : drop i (map operator_in (records_in 4 count table)) ≡ operator_at i table ∷ drop (suc i) (map operator_in (records_in 4 count table))
  next-operator =
      next_record 4 operator_in count table i h
      ∙ rw (first_word_at 4 i table (omega arith), word_at 4 i 1 table (omega arith), word_at 4 i 2 table (omega arith), word_at 4 i 3 table (omega arith))

  pub next-label : drop i (map label_in (records_in 3 count table)) ≡ label_at i table ∷ drop (suc i) (map label_in (records_in 3 count table))
  next-label =
      next_record 3 label_in count table i h
      ∙ rw (first_word_at 3 i table (omega arith), word_at 3 i 1 table (omega arith), word_at 3 i 2 table (omega arith))

-- ---- lent up to the last record

pub lent_records : (width count : ℕ) (table : List ℕ) → records_in width count (take (width * count) table) ≡ records_in width count table
unfolding records_in
lent_records width zero table = refl
lent_records width (suc n) table =
    let e : width * suc n ≡ width + width * n = rw mul-suc (omega arith) in
    rw (e, take-take width (width + width * n) table (omega arith), drop-take width (width * n) table, lent_records width n (drop width table))

pub lent_count : (width count : ℕ) (table : List ℕ) → 0 < width → width * count ≤ length table → length (take (width * count) table) / width ≡ count
lent_count width count table h k = rw (length-take-le (width * count) table k) (mul-div_cancel_left count h)

pub counted_script : (t : Tables) {operators labels : List ℕ} → t.operator_count ≤ length t.operators / 4 → t.label_count ≤ length t.labels / 3
    → operators ≡ take (4 * t.operator_count) t.operators → labels ≡ take (3 * t.label_count) t.labels
    → (over_capacity t ≡ false) × (script_in (full t.text operators labels) ≡ script_in t)
unfolding script_in
counted_script t f g os ls = (within, rw (os, ls) script)
  where
    within : over_capacity t ≡ false
    within = rw (le-ltb (length t.operators / 4) t.operator_count f, le-ltb (length t.labels / 3) t.label_count g)

    script : script_in (full t.text (take (4 * t.operator_count) t.operators) (take (3 * t.label_count) t.labels)) ≡ script_in t
    script =
        rw (lent_count 4 t.operator_count t.operators (omega arith) (words_fit 4 _ _ f), lent_count 3 t.label_count t.labels (omega arith) (words_fit 3 _ _ g))
        (rw (lent_records 4 t.operator_count t.operators, lent_records 3 t.label_count t.labels))
