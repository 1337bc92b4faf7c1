-- What a row's number and mask say of eight bytes: one computed test of the 30 rows.
use Rattle.std.proofs.Common.{◌≡◌, ℕ, zero, suc, ◌<◌, ◌≤◌, ◌-◌, ◌*◌, ◌^◌, ◌%◌, arith, Bool, true, false, cond, ◌&&◌, List, [], ◌∷◌, take, length, get_or, refl, sym, ap, ◌∙◌, Some}
use Rattle.std.specs.Prelude.{◌≢◌, bit_xor, None, ◌+◌, drop, map, eqb, leb, ltb, bit_and, replicate}
use Rattle.std.specs.Bool.{MatchBool}
use Rattle.std.specs.Int.{w64, from_le_bytes}
use Rattle.std.proofs.lemmas.Bool.{le-leb, eqb-true, eq-eqb, ltb-true, leb-true, and_parts}
use Rattle.std.proofs.lemmas.List.{length-drop, get_or-map, length-take-le, get_or-take, length-take, take-take}
use Rattle.std.proofs.lemmas.Nat.{and_mask}
use Rattle.base.proofs.Parts.{to_the_end}
use Rattle.base.proofs.Tests.{absurd_bool, all-at}
use Rattle.names.specs.Packed.{packed}
use Rattle.names.proofs.Packed.{AreBytes, packed-same, take-bytes, first_of, packed_le}
use Rattle.names.proofs.Same.{same-equal}
use Rattle.words.specs.declared.table.TheConstants.{WORDS}
use Rattle.words.specs.declared.table.Row as code
use Rattle.words.specs.Words.{Word, words, lookup}
use Rattle.words.specs.Places.{own_name, spelled, number, low, place, placed, begins as row_begins, Begins, Spells}
use Rattle.words.proofs.Rows.{below, known, spelled_is, no_word}

unfoldable pub are_bytes : List ℕ → Bool
are_bytes [] = true
are_bytes (b ∷ l) = ltb b 256 && are_bytes l

bytes-at : (l : List ℕ) → are_bytes l ≡ true → AreBytes l
unfolding are_bytes
bytes-at [] t k = omega arith
bytes-at (b ∷ l) t zero = ltb-true b 256 (and_parts (ltb b 256) (are_bytes l) t).0
bytes-at (b ∷ l) t (suc k) = bytes-at l (and_parts (ltb b 256) (are_bytes l) t).1 k

-- A short row's number is that of its name, and its mask has as many bytes; a longer one's mask has none.
unfoldable pub right : code.Row → Bool
right r =
    eqb (length (own_name r)) r.length
    && cond (leb r.length 8)
    (leb 1 r.length && (eqb (low r) (packed (own_name r)) && (eqb r.mask (2 ^ (8 * r.length) - 1) && are_bytes (own_name r))))
    (eqb r.mask 0 && ltb 0 (low r))

tested : map right WORDS ≡ replicate 30 true
unfolding right are_bytes packed
tested = refl

row_right : (i : ℕ) (d : code.Row) → i < 30 → right (get_or WORDS i d) ≡ true
row_right i d h =
    sym (get_or-map right WORDS i d false h)
    ∙ ap (λ (l : List Bool). get_or l i false) tested
    ∙ all-at (λ (k : ℕ). get_or (replicate 30 true) k false) 30 refl i h

module _ (r : code.Row) (bytes : List ℕ) (n : ℕ) (eight : length bytes ≡ 8) (fit : AreBytes bytes) (ok : right r ≡ true) where
  number_of : from_le_bytes w64 bytes ≡ packed bytes
  number_of = packed_le bytes eight

  long : length (own_name r) ≡ r.length
  unfolding right
  long = eqb-true (length (own_name r)) r.length (and_parts (eqb (length (own_name r)) r.length) _ ok).0

  record Fits : Type 0 where
    some : 1 ≤ r.length
    number : low r ≡ packed (own_name r)
    mask : r.mask ≡ 2 ^ (8 * r.length) - 1
    names : AreBytes (own_name r)

  fits : leb r.length 8 ≡ true → Fits
  unfolding right
  fits e =
      let p = rw e at (and_parts (eqb (length (own_name r)) r.length) _ ok).1 in
      let q = and_parts (leb 1 r.length) _ p in
      let s = and_parts (eqb (low r) (packed (own_name r))) _ q.1 in
      let u = and_parts (eqb r.mask (2 ^ (8 * r.length) - 1)) (are_bytes (own_name r)) s.1 in
      record {
        some = leb-true 1 r.length q.0;
        number = eqb-true (low r) (packed (own_name r)) s.0;
        mask = eqb-true r.mask (2 ^ (8 * r.length) - 1) u.0;
        names = bytes-at (own_name r) u.1;
      }

  -- What the mask leaves.
  left : Fits → r.length ≡ n → n ≤ 8 → bit_and (from_le_bytes w64 bytes) r.mask ≡ packed (take n bytes)
  left f same short =
      rw (f.mask, same)
      (and_mask (from_le_bytes w64 bytes) (8 * n)
      ∙ ap (λ (x : ℕ). x % 2 ^ (8 * n)) number_of
      ∙ first_of n bytes (omega (arith, eight, short)) fit)

  pub begins : (w : Word) → lookup (own_name r) words ≡ Some w → row_begins r (from_le_bytes w64 bytes) n ≡ true → Begins bytes n w
  unfolding right
  begins w found tells = by_length (leb r.length 8) refl
    where
      same : r.length ≡ n
      same = eqb-true r.length n (and_parts (eqb r.length n) _ tells).0

      equal : bit_and (from_le_bytes w64 bytes) r.mask ≡ low r
      equal = eqb-true _ (low r) (and_parts (eqb r.length n) _ tells).1

      by_length : (t : Bool) → leb r.length 8 ≡ t → Begins bytes n w
      by_length false e =
          let p = and_parts (eqb r.mask 0) (ltb 0 (low r)) (rw e at (and_parts (eqb (length (own_name r)) r.length) _ ok).1) in
          let none : bit_and (from_le_bytes w64 bytes) r.mask ≡ from_le_bytes w64 bytes % 2 ^ 0 =
          rw (eqb-true r.mask 0 p.0) (and_mask (from_le_bytes w64 bytes) 0) in
          absurd (omega (arith, ltb-true 0 (low r) p.1, equal, none))
      by_length true e =
          let f = fits e in
          let short = leb-true r.length 8 e in
          let front : packed (take n bytes) ≡ packed (own_name r) = sym (left f same (omega (arith, short, same))) ∙ equal ∙ f.number in
          let whole : length (take n bytes) ≡ length (own_name r) = omega (arith, length-take n bytes, eight, short, same, long) in
          let named : take n bytes ≡ own_name r =
          same-equal (take n bytes) (own_name r)
          (sym (packed-same (take n bytes) (own_name r) whole (take-bytes n bytes fit) f.names) ∙ eq-eqb _ _ front) in
          (omega (arith, f.some, same), omega (arith, short, same), rw named found)

  pub tells : n ≤ 8 → own_name r ≡ take n bytes → row_begins r (from_le_bytes w64 bytes) n ≡ true
  tells short named =
      let same : r.length ≡ n = sym long ∙ ap length named ∙ length-take-le n bytes (omega (arith, eight, short)) in
      let f = fits (le-leb r.length 8 (omega (arith, same, short))) in
      let equal : bit_and (from_le_bytes w64 bytes) r.mask ≡ low r = left f same short ∙ ap packed (sym named) ∙ sym f.number in
      rw (eq-eqb r.length n same, eq-eqb _ (low r) equal) refl

pub word_begins : (w : Word) (i : ℕ) (d : code.Row) (bytes : List ℕ) (eight n : ℕ) (t : Bool) → i ≡ number w → length bytes ≡ 8 → AreBytes bytes
    → eight ≡ from_le_bytes w64 bytes → t ≡ row_begins (get_or WORDS i d) eight n → MatchBool t (Begins bytes n w) (n ≤ 8 → spelled w ≢ take n bytes)
word_begins w i d bytes eight n false is size fit read told =
    λ short named.
    let h : i < 30 = rw is (below w) in
    absurd_bool (told ∙ rw read (tells (get_or WORDS i d) bytes n size fit (row_right i d h) short (spelled_is w i d is ∙ named)))
word_begins w i d bytes eight n true is size fit read told =
    let h : i < 30 = rw is (below w) in
    begins (get_or WORDS i d) bytes n size fit (row_right i d h) w (rw (spelled_is w i d is) (known w)) (sym (rw read at told))

module _ (text : List ℕ) (start end : ℕ) (bytes : List ℕ) (left : start + 8 ≤ length text) (s : start < 2 ^ 32) (late : end < 2 ^ 32)
    (is : bytes ≡ take 8 (take (length text - start) (drop start text))) where
  is-eight : bytes ≡ take 8 (drop start text)
  is-eight = is ∙ ap (λ (l : List ℕ). take 8 l) (to_the_end start text)

  pub spells : (w : Word) → Begins bytes ((end + (18446744073709551616 - start)) % 18446744073709551616) w → Spells text start end w
  spells w b =
      let n : (end + (18446744073709551616 - start)) % 18446744073709551616 ≡ end - start = omega (arith, b.0, b.1, s, late) in
      let small : end - start ≤ 8 = rw n at b.1 in
      let front : take (end - start) bytes ≡ take (end - start) (drop start text) =
      ap (λ (l : List ℕ). take (end - start) l) is-eight
      ∙ take-take (end - start) 8 (drop start text) small in
      (omega (arith, b.0, n), omega (arith, b.0, n, small, left), rw (← front) (rw n at b.2))

  -- Where neither of both words stands, none does.
  pub none_short : (n p : ℕ) → n ≡ (end + (18446744073709551616 - start)) % 18446744073709551616 → p ≡ place (get_or bytes 0 0) n
      → (n ≤ 8 → spelled (placed p) ≢ take n bytes) → (n ≤ 8 → spelled (placed (bit_xor p 1)) ≢ take n bytes)
      → start < end → end ≤ start + 8 → lookup (take (end - start) (drop start text)) words ≡ None
  none_short n p now is likely other h k =
      let e : n ≡ end - start = omega (arith, now, s, late, h) in
      let short : n ≤ 8 = omega (arith, e, k) in
      let eight : length bytes ≡ 8 = rw is-eight (length-take-le 8 (drop start text) (omega (arith, length-drop start text, left))) in
      let part : take n bytes ≡ take (end - start) (drop start text) =
      ap (λ (l : List ℕ). take n l) is-eight ∙ take-take n 8 (drop start text) short ∙ ap (λ (m : ℕ). take m (drop start text)) e in
      let first : get_or (take n bytes) 0 0 ≡ get_or bytes 0 0 = get_or-take n bytes 0 0 (omega (arith, e, h)) in
      let size : length (take n bytes) ≡ n = length-take-le n bytes (omega (arith, eight, short)) in
      sym (rw part at (no_word (take n bytes) p (rw (first, size) is) (likely short) (other short)))

pub too_short : (text : List ℕ) (start : ℕ) → start + 8 ≤ length text → length (take (length text - start) (drop start text)) < 8 → ⊥
too_short text start left h = omega (arith, length-take (length text - start) (drop start text), length-drop start text, left, h)
