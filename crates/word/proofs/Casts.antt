-- A quotient and a remainder of signed words lose nothing where they are read as words again.
use Rattle.std.proofs.Common.{◌≡◌, ℕ, zero, suc, ◌/◌, ◌%◌, ◌^◌, ◌<◌, ◌≤◌, ℤ, pos, negsuc, neg_ℤ, nat_abs, refl, div-le_self, arith, w32, of_z, to_z}
use Rattle.std.specs.Prelude.{int_div, int_rem}
use Rattle.std.proofs.lemmas.Int.{of_z-to_z}
use Rattle.std.proofs.Math.Facts.{Fits-of_lt, sfits_to_z}
use Rattle.std.specs.Int.Signed.{nat_abs-le}
use native.Mathlib.Nat.{mod-le}
use Rattle.word.specs.Word.{quotient, remainder}

fits : (z : ℤ) → nat_abs z < 2 ^ 32 → of_z w32 z < 2 ^ 32
fits (pos n) h = h
fits (negsuc n) h = omega arith

opposite : (n : ℕ) → nat_abs (neg_ℤ (pos n)) ≡ n
opposite zero = refl
opposite (suc n) = refl

quotient_size : (x y : ℤ) → nat_abs (int_div x y) ≤ nat_abs x
quotient_size (pos a) (pos b) = div-le_self a b
quotient_size (pos a) (negsuc b) = rw (opposite (a / suc b)) (div-le_self a (suc b))
quotient_size (negsuc a) (pos b) = rw (opposite (suc a / b)) (div-le_self (suc a) b)
quotient_size (negsuc a) (negsuc b) = div-le_self (suc a) (suc b)

remainder_size : (x y : ℤ) → nat_abs (int_rem x y) ≤ nat_abs x
remainder_size (pos a) y = mod-le a (nat_abs y)
remainder_size (negsuc a) y = rw (opposite (suc a % nat_abs y)) (mod-le (suc a) (nat_abs y))

size : (a : ℕ) → a < 2 ^ 32 → nat_abs (to_z w32 a) ≤ 2 ^ 31
size a h = let s = sfits_to_z {w = w32} (Fits-of_lt h) in nat_abs-le (to_z w32 a) s.sfits

module _ (a b : ℕ) (x y : ℤ) (f : a < 2 ^ 32) (g : b < 2 ^ 32) (is : x ≡ to_z w32 a) (is' : y ≡ to_z w32 b) where
  pub quotient_kept : of_z w32 (to_z w32 (of_z w32 (int_div (to_z w32 (of_z w32 x)) (to_z w32 (of_z w32 y))))) ≡ quotient a b
  unfolding quotient
  quotient_kept =
      let p = to_z w32 a in
      let q = to_z w32 b in
      rw (is, is', of_z-to_z w32 a f, of_z-to_z w32 b g)
      (of_z-to_z w32 (of_z w32 (int_div p q)) (fits (int_div p q) (omega (arith, quotient_size p q, size a f))))

  pub remainder_kept : of_z w32 (to_z w32 (of_z w32 (int_rem (to_z w32 (of_z w32 x)) (to_z w32 (of_z w32 y))))) ≡ remainder a b
  unfolding remainder
  remainder_kept =
      let p = to_z w32 a in
      let q = to_z w32 b in
      rw (is, is', of_z-to_z w32 a f, of_z-to_z w32 b g)
      (of_z-to_z w32 (of_z w32 (int_rem p q)) (fits (int_rem p q) (omega (arith, remainder_size p q, size a f))))
