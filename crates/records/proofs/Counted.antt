-- As many records as a table has room for fit into it.
use Rattle.std.proofs.Common.{ℕ, ◌*◌, ◌/◌, ◌≤◌, arith}
use Rattle.std.proofs.Math.Nat.{mul-div-le}

pub words_fit : (width count words : ℕ) → count ≤ words / width → width * count ≤ words
words_fit width count words h = grind (arith, mul-div-le words width)
