-- Bytes packed into a number: two numbers are the same exactly if the bytes are, and the first bytes leave at the bottom.
use Prim.Native.Nat.{ℕ, zero, suc, ◌+◌, ◌*◌, ◌%◌, ◌^◌, ◌≤◌, ◌<◌}
use mathlib.Core.Bool.{Bool, true, false, ◌&&◌}
use mathlib.Core.List.{List, [], ◌∷◌, ◌++◌}
use mathlib.Core.Path.{◌≡◌, refl, sym, ap, subst, ◌∙◌}
use native.Mathlib.Nat.{mul_assoc}
use native.Mathlib.Omega.{arith}
use borrow.Author.Tests.{eq-eqb, ne_eqb, eqb-true}
use lib.Arith.{digits_mod}
use lib.Dec.{eqb}
use lib.ListN.{length, get_or, take, drop, take-append-drop}
use lib.Pow.{pow-add}
use lib.Seq.{length-take-le}
use Rattle.std.specs.Int.{w64, from_le_bytes}
use Rattle.std.proofs.lemmas.Bool.{and_parts}
use Rattle.names.specs.Names.{same_bytes}
use Rattle.names.specs.Packed.{packed}

abbrev pub AreBytes : List ℕ → Type 0
AreBytes l = (k : ℕ) → get_or l k 0 < 256

pub take-bytes : (n : ℕ) (l : List ℕ) → AreBytes l → AreBytes (take n l)
take-bytes zero l h k = omega arith
take-bytes (suc n) [] h k = omega arith
take-bytes (suc n) (x ∷ l) h zero = h 0
take-bytes (suc n) (x ∷ l) h (suc k) = take-bytes n l (λ (j : ℕ). h (suc j)) k

-- a test of two numbers, by what it says
test_is : (x y : ℕ) (t : Bool) → (t ≡ true → x ≡ y) → (x ≡ y → t ≡ true) → eqb x y ≡ t
test_is x y true f g = eq-eqb x y (f refl)
test_is x y false f g = ne_eqb x y (λ e. let z : false ≡ true = g e in let w : ◌≡◌ {A = ℕ} 0 1 = cc in omega arith)

digits_same : (x y a b : ℕ) → a < 256 → b < 256 → eqb (x * 256 + a) (y * 256 + b) ≡ eqb a b && eqb x y
digits_same x y a b h k =
    test_is (x * 256 + a) (y * 256 + b) (eqb a b && eqb x y)
    (λ t. let p = and_parts (eqb a b) (eqb x y) t in omega (arith, eqb-true a b p.0, eqb-true x y p.1))
    (λ (e : x * 256 + a ≡ y * 256 + b). rw (eq-eqb a b (omega arith), eq-eqb x y (omega arith)))

pub packed-same : (xs ys : List ℕ) → length xs ≡ length ys → AreBytes xs → AreBytes ys → eqb (packed xs) (packed ys) ≡ same_bytes xs ys
unfolding packed same_bytes
packed-same [] [] l h k = refl
packed-same [] (y ∷ ys) l h k = absurd (omega arith)
packed-same (x ∷ xs) [] l h k = absurd (omega arith)
packed-same (x ∷ xs) (y ∷ ys) l h k =
    digits_same (packed xs) (packed ys) x y (h 0) (k 0)
    ∙ ap (λ (t : Bool). eqb x y && t) (packed-same xs ys (omega arith) (λ (j : ℕ). h (suc j)) (λ (j : ℕ). k (suc j)))

eight-more : (n : ℕ) → 2 ^ (8 * suc n) ≡ 2 ^ (8 * n) * 256
eight-more n = let e : 8 * suc n ≡ 8 * n + 8 = omega arith in rw (e, pow-add 2 (8 * n) 8)

packed-below : (xs : List ℕ) → AreBytes xs → packed xs < 2 ^ (8 * length xs)
unfolding packed
packed-below [] h = omega arith
packed-below (x ∷ xs) h = rw eight-more (omega (arith, packed-below xs (λ (j : ℕ). h (suc j)), h 0))

packed-append : (xs ys : List ℕ) → packed (xs ++ ys) ≡ packed ys * 2 ^ (8 * length xs) + packed xs
unfolding packed
packed-append [] ys = omega arith
packed-append (x ∷ xs) ys =
    rw (packed-append xs ys, eight-more (length xs), ← mul_assoc (packed ys) (2 ^ (8 * length xs)) 256) (omega arith)

split_at : (n : ℕ) (l : List ℕ) → n ≤ length l → packed l ≡ packed (drop n l) * 2 ^ (8 * n) + packed (take n l)
split_at n l h =
    ap packed (sym (take-append-drop n l))
    ∙ packed-append (take n l) (drop n l)
    ∙ ap (λ (k : ℕ). packed (drop n l) * 2 ^ (8 * k) + packed (take n l)) (length-take-le n l h)

pub first_of : (n : ℕ) (l : List ℕ) → n ≤ length l → AreBytes l → packed l % 2 ^ (8 * n) ≡ packed (take n l)
first_of n l h b =
    let low = subst (λ (k : ℕ). packed (take n l) < 2 ^ (8 * k)) (length-take-le n l h) (packed-below (take n l) (take-bytes n l b)) in
    rw (split_at n l h) (digits_mod (packed (drop n l)) {m = 2 ^ (8 * n)} low)

-- the number that std reads of eight bytes
pub packed_le : (bytes : List ℕ) → length bytes ≡ 8 → from_le_bytes w64 bytes ≡ packed bytes
unfolding packed
packed_le (a ∷ b ∷ c ∷ d ∷ e ∷ f ∷ g ∷ h ∷ []) n = omega arith
packed_le (a ∷ b ∷ c ∷ d ∷ e ∷ f ∷ g ∷ h ∷ i ∷ bytes) n = absurd (omega arith)
packed_le [] n = absurd (omega arith)
packed_le (a ∷ []) n = absurd (omega arith)
packed_le (a ∷ b ∷ []) n = absurd (omega arith)
packed_le (a ∷ b ∷ c ∷ []) n = absurd (omega arith)
packed_le (a ∷ b ∷ c ∷ d ∷ []) n = absurd (omega arith)
packed_le (a ∷ b ∷ c ∷ d ∷ e ∷ []) n = absurd (omega arith)
packed_le (a ∷ b ∷ c ∷ d ∷ e ∷ f ∷ []) n = absurd (omega arith)
packed_le (a ∷ b ∷ c ∷ d ∷ e ∷ f ∷ g ∷ []) n = absurd (omega arith)
