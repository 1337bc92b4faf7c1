-- The answer for the character at the front, by its first byte and the bytes after it.
use Prim.Native.Nat.{ℕ, ◌+◌, ◌-◌, ◌*◌, ◌%◌, ◌≤◌, ◌<◌}
use mathlib.Core.Bool.{Bool, true, false, cond, ◌&&◌}
use mathlib.Core.List.{List, [], ◌∷◌}
use mathlib.Core.Path.{◌≡◌, refl, sym, ap, ◌∙◌}
use native.Mathlib.Omega.{arith}
use lib.ListN.{length, get_or}
use Rattle.base.specs.Ranges.{within}
use Rattle.utf8.specs.Utf8.{Front, ill_formed, scalar, follow, front}
use Rattle.utf8.proofs.Fronts.{front-one, front-two, front-three, front-four, front-lone, front-over}
use Rattle.reader.specs.declared.chars.Char.{Char}
use Rattle.reader.specs.declared.chars.Char.TheVariants.{Missing}
use Rattle.reader.specs.Chars.{char_of}
use Rattle.reader.specs.Private.{low_after, high_after, Starts}

-- a test that fails leaves no character, and what breaks off is none whatever it has
broken : (t : Bool) → cond t ill_formed ill_formed ≡ ill_formed
broken true = refl
broken false = refl

both : (s t : Bool) (x : Front) → cond s (cond t x ill_formed) ill_formed ≡ cond (s && t) x ill_formed
both true t x = refl
both false t x = refl

module _ (bytes : List ℕ) where
  pub missing : front bytes ≡ ill_formed → Missing ≡ char_of (front bytes)
  unfolding char_of
  missing e = rw e

  module _ {t : Bool} (x : Front) (e : front bytes ≡ cond t x ill_formed) where
    pub passed : {r : Char} → r ≡ char_of x → t ≡ true → r ≡ char_of (front bytes)
    passed r is = rw (e, is) r

    pub failed : t ≡ false → Missing ≡ char_of (front bytes)
    failed is = missing (e ∙ rw is)

-- ---- a first byte
pub none_first : (bytes : List ℕ) → length bytes ≡ 0 → Missing ≡ char_of (front bytes)
unfolding char_of front
none_first [] h = refl
none_first (a ∷ rest) h = absurd (omega arith)

pub one_first : {r : Char} (bytes : List ℕ) → 0 < length bytes → get_or bytes 0 0 < 0x80 → r ≡ char_of (scalar (get_or bytes 0 0) 1) → r ≡ char_of (front bytes)
one_first [] h l e = absurd (omega arith)
one_first (b ∷ rest) h l e = e ∙ ap char_of (sym (front-one b rest l))

pub lone_first : (bytes : List ℕ) → 0x80 ≤ get_or bytes 0 0 → get_or bytes 0 0 < 0xC2 → Missing ≡ char_of (front bytes)
lone_first [] l k = absurd (omega arith)
lone_first (b ∷ rest) l k = missing (b ∷ rest) (front-lone b rest l k)

pub over_first : (bytes : List ℕ) → 0xF5 ≤ get_or bytes 0 0 → get_or bytes 0 0 < 256 → Missing ≡ char_of (front bytes)
over_first [] l k = absurd (omega arith)
over_first (b ∷ rest) l k = missing (b ∷ rest) (front-over b rest l k)

-- ---- the bytes after it
module _ {a : ℕ} where
  pub short_two : (bytes : List ℕ) → Starts 0xC2 0xDF a bytes → length bytes < 2 → front bytes ≡ ill_formed
  unfolding follow
  short_two [] s h = absurd (omega (arith, s.some))
  short_two (x ∷ []) s h = front-two x [] (omega (arith, s.least, s.first)) (omega (arith, s.most, s.first))
  short_two (x ∷ y ∷ rest) s h = absurd (omega arith)

  pub at_two : (bytes : List ℕ) → Starts 0xC2 0xDF a bytes → 2 ≤ length bytes
      → front bytes ≡ cond (within 0x80 0xBF (get_or bytes 1 0)) (scalar ((a - 0xC0) * 64 + get_or bytes 1 0 % 64) 2) ill_formed
  unfolding follow
  at_two [] s h = absurd (omega arith)
  at_two (x ∷ []) s h = absurd (omega arith)
  at_two (x ∷ y ∷ rest) s h = rw s.first (front-two x (y ∷ rest) (omega (arith, s.least, s.first)) (omega (arith, s.most, s.first)))

  pub short_three : (bytes : List ℕ) → Starts 0xE0 0xEF a bytes → length bytes < 3 → front bytes ≡ ill_formed
  unfolding follow
  short_three [] s h = absurd (omega (arith, s.some))
  short_three (x ∷ []) s h = front-three x [] (omega (arith, s.least, s.first)) (omega (arith, s.most, s.first))
  short_three (x ∷ y ∷ []) s h = front-three x (y ∷ []) (omega (arith, s.least, s.first)) (omega (arith, s.most, s.first)) ∙ broken _
  short_three (x ∷ y ∷ z ∷ rest) s h = absurd (omega arith)

  pub at_three : (bytes : List ℕ) → Starts 0xE0 0xEF a bytes → 3 ≤ length bytes
      → front bytes
      ≡ cond (within (low_after a) (high_after a) (get_or bytes 1 0) && within 0x80 0xBF (get_or bytes 2 0))
      (scalar (((a - 0xE0) * 64 + get_or bytes 1 0 % 64) * 64 + get_or bytes 2 0 % 64) 3) ill_formed
  unfolding follow
  at_three [] s h = absurd (omega arith)
  at_three (x ∷ []) s h = absurd (omega arith)
  at_three (x ∷ y ∷ []) s h = absurd (omega arith)
  at_three (x ∷ y ∷ z ∷ rest) s h =
      rw s.first
      (front-three x (y ∷ z ∷ rest) (omega (arith, s.least, s.first)) (omega (arith, s.most, s.first))
      ∙ both (within (low_after x) (high_after x) y) (within 0x80 0xBF z) _)

  pub short_four : (bytes : List ℕ) → Starts 0xF0 0xF4 a bytes → length bytes < 4 → front bytes ≡ ill_formed
  unfolding follow
  short_four [] s h = absurd (omega (arith, s.some))
  short_four (x ∷ []) s h = front-four x [] (omega (arith, s.least, s.first)) (omega (arith, s.most, s.first))
  short_four (x ∷ y ∷ []) s h = front-four x (y ∷ []) (omega (arith, s.least, s.first)) (omega (arith, s.most, s.first)) ∙ broken _
  short_four (x ∷ y ∷ z ∷ []) s h =
      front-four x (y ∷ z ∷ []) (omega (arith, s.least, s.first)) (omega (arith, s.most, s.first)) ∙ both (within (low_after x) (high_after x) y) (within 0x80 0xBF z) ill_formed ∙ broken _
  short_four (x ∷ y ∷ z ∷ w ∷ rest) s h = absurd (omega arith)

  pub at_four : (bytes : List ℕ) → Starts 0xF0 0xF4 a bytes → 4 ≤ length bytes
      → front bytes
      ≡ cond (within (low_after a) (high_after a) (get_or bytes 1 0) && within 0x80 0xBF (get_or bytes 2 0) && within 0x80 0xBF (get_or bytes 3 0))
      (scalar ((((a - 0xF0) * 64 + get_or bytes 1 0 % 64) * 64 + get_or bytes 2 0 % 64) * 64 + get_or bytes 3 0 % 64) 4) ill_formed
  unfolding follow
  at_four [] s h = absurd (omega arith)
  at_four (x ∷ []) s h = absurd (omega arith)
  at_four (x ∷ y ∷ []) s h = absurd (omega arith)
  at_four (x ∷ y ∷ z ∷ []) s h = absurd (omega arith)
  at_four (x ∷ y ∷ z ∷ w ∷ rest) s h =
      rw s.first
      (front-four x (y ∷ z ∷ w ∷ rest) (omega (arith, s.least, s.first)) (omega (arith, s.most, s.first))
      ∙ both (within (low_after x) (high_after x) y) (within 0x80 0xBF z) _
      ∙ both (within (low_after x) (high_after x) y && within 0x80 0xBF z) (within 0x80 0xBF w) _)
