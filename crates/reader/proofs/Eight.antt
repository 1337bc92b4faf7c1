-- The first eight bytes, one by one, with zeros where there are fewer.
use Prim.Native.Nat.{ℕ, ◌+◌, ◌*◌}
use mathlib.Core.List.{List, [], ◌∷◌}
use mathlib.Core.Path.{◌≡◌}
use native.Mathlib.Omega.{arith}
use lib.ListN.{take, get_or}
use Rattle.names.specs.Packed.{packed}

abbrev pub eight_of : List ℕ → ℕ
eight_of bytes =
    get_or bytes 0 0
    + get_or bytes 1 0 * 0x100
    + get_or bytes 2 0 * 0x1_0000
    + get_or bytes 3 0 * 0x100_0000
    + get_or bytes 4 0 * 0x1_0000_0000
    + get_or bytes 5 0 * 0x100_0000_0000
    + get_or bytes 6 0 * 0x1_0000_0000_0000
    + get_or bytes 7 0 * 0x100_0000_0000_0000

pub packed_eight : (bytes : List ℕ) → eight_of bytes ≡ packed (take 8 bytes)
unfolding packed
packed_eight (a ∷ b ∷ c ∷ d ∷ e ∷ f ∷ g ∷ h ∷ bytes) = omega arith
packed_eight [] = omega arith
packed_eight (a ∷ []) = omega arith
packed_eight (a ∷ b ∷ []) = omega arith
packed_eight (a ∷ b ∷ c ∷ []) = omega arith
packed_eight (a ∷ b ∷ c ∷ d ∷ []) = omega arith
packed_eight (a ∷ b ∷ c ∷ d ∷ e ∷ []) = omega arith
packed_eight (a ∷ b ∷ c ∷ d ∷ e ∷ f ∷ []) = omega arith
packed_eight (a ∷ b ∷ c ∷ d ∷ e ∷ f ∷ g ∷ []) = omega arith
