-- Eight bytes as one number.
use Rattle.std.specs.Prelude.{ℕ, cond, List, ltb, length, take}
use Rattle.names.specs.Packed.{packed}

-- The first eight; 0 where there are fewer.
unfoldable pub first_eight : List ℕ → ℕ
first_eight bytes = cond (ltb (length bytes) 8) 0 (packed (take 8 bytes))
