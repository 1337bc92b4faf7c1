-- Records in a table: one that fits, one that doesn't, and all of them.
use Prim.Native.Nat.{ℕ, suc, ◌+◌, ◌*◌, ◌/◌, ◌≤◌, ◌<◌}
use mathlib.Core.List.{List, [], ◌∷◌, ◌++◌, map, flat_map}
use mathlib.Core.Path.{◌≡◌, refl, sym, ap, ◌∙◌}
use native.Mathlib.Nat.{add-zero, zero-add, zero-mul, suc-mul, add-mul, le-div_iff_mul-le}
use native.Mathlib.Omega.{arith}
use borrow.Author.Tests.{lt-ltb, le-ltb}
use lib.Dec.{ltb}
use lib.ListN.{length, take, drop, set, length-append}
use lib.Seq.{sets, sets-eq, length-sets, take-append_seam}
use Rattle.base.proofs.Tests.{cond_by}
use Rattle.compile.specs.Private.{put, puts}

-- an index below the capacity is that of a record in the table
module _ (width index room : ℕ) (wide : 0 < width) where
  pub index_in : index < room / width → index * width + width ≤ room
  index_in h = rw (suc-mul index width) at ((le-div_iff_mul-le wide).0 h)

  in_index : index * width + width ≤ room → index < room / width
  in_index h = (le-div_iff_mul-le wide).1 (rw (suc-mul index width) h)

module _ (width index : ℕ) (table words : List ℕ) where
  put-fits : index < length table / width → put width table index words ≡ sets table (index * width) words
  unfolding put
  put-fits h = rw (lt-ltb index (length table / width) h)

  pub put_past : length table / width ≤ index → table ≡ put width table index words
  unfolding put
  put_past h = rw (le-ltb index (length table / width) h)

  pub put-length : length (put width table index words) ≡ length table
  unfolding put
  put-length = cond_by (λ (l : List ℕ). length l ≡ length table) (ltb index (length table / width)) (λ _. length-sets table (index * width) words) (λ _. refl)

puts-length : (width index : ℕ) (table : List ℕ) (records : List (List ℕ)) → length (puts width table index records) ≡ length table
unfolding puts
puts-length width index table [] = refl
puts-length width index table (r ∷ later) = puts-length width (index + 1) (put width table index r) later ∙ put-length width index table r

-- where all of them fit
sets-front : (words table : List ℕ) → length words ≤ length table → sets table 0 words ≡ words ++ drop (length words) table
sets-front words table h = sets-eq words table 0 (omega arith) ∙ ap (λ (n : ℕ). words ++ drop n table) (zero-add (length words))

sets-append : (xs ys l : List ℕ) (i : ℕ) → sets l i (xs ++ ys) ≡ sets (sets l i xs) (i + length xs) ys
sets-append [] ys l i = ap (λ (k : ℕ). sets l k ys) (sym (add-zero i))
sets-append (x ∷ xs) ys l i = sets-append xs ys (set l i x) (suc i) ∙ ap (λ (k : ℕ). sets (sets (set l i x) (suc i) xs) k ys) (omega arith)

module _ {A : Type 0} (words : A → List ℕ) (width : ℕ) (wide : 0 < width) (each : (a : A) → length (words a) ≡ width) where
  puts-sets : (xs : List A) (table : List ℕ) (index : ℕ) → index * width + length (flat_map words xs) ≤ length table
      → puts width table index (map words xs) ≡ sets table (index * width) (flat_map words xs)
  unfolding puts flat_map
  puts-sets [] table index h = refl
  puts-sets (x ∷ xs) table index h =
      let more : length (words x ++ flat_map words xs) ≡ width + length (flat_map words xs) = simp length-append (omega (arith, each x)) in
      let next : (index + 1) * width ≡ index * width + length (words x) = add-mul index 1 width ∙ omega (arith, each x) in
      ap (λ (l : List ℕ). puts width l (index + 1) (map words xs)) (put-fits width index table (words x) (in_index width index (length table) wide (omega arith)))
      ∙ puts-sets xs (sets table (index * width) (words x)) (index + 1) (omega (arith, length-sets table (index * width) (words x), each x))
      ∙ ap (λ (k : ℕ). sets (sets table (index * width) (words x)) k (flat_map words xs)) next
      ∙ sym (sets-append (words x) (flat_map words xs) table (index * width))

  pub puts-all : (xs : List A) (table : List ℕ) → length (flat_map words xs) ≤ length table
      → puts width table 0 (map words xs) ≡ flat_map words xs ++ drop (length (flat_map words xs)) table
  puts-all xs table h = puts-sets xs table 0 (omega arith) ∙ ap (λ (i : ℕ). sets table i (flat_map words xs)) (zero-mul width) ∙ sets-front (flat_map words xs) table h

  -- by way of a table of their own
  pub puts-copied : (xs : List A) (own table : List ℕ) {n : ℕ} {own' : List ℕ} → n ≡ length (flat_map words xs) → n ≤ length own' → n ≤ length table
      → own' ≡ puts width own 0 (map words xs) → take n own' ++ drop (length (take n own')) table ≡ flat_map words xs ++ drop (length (flat_map words xs)) table
  puts-copied xs own table e h k p =
      let room : length (flat_map words xs) ≤ length own = omega (arith, e, h, ap length p, puts-length width 0 own (map words xs)) in
      rw (p, e, puts-all xs own room, take-append_seam (flat_map words xs) (drop (length (flat_map words xs)) own))
