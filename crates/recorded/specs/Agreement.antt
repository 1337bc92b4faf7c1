-- How many cases agree, and which is told that does not.
use Rattle.std.specs.Prelude.{ℕ, Bool, true, false, Option, Some, None}

-- the one that was told before; else this case, unless it agrees
abbrev pub first_with : (before : Option ℕ) → (case : ℕ) → (agrees : Bool) → Option ℕ
first_with (Some first) case agrees = Some first
first_with None case true = None
first_with None case false = Some case

-- one case more agrees, or none
abbrev pub one_if : (agrees : Bool) → ℕ
one_if true = 1
one_if false = 0
