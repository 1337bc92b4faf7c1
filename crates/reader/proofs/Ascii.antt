-- Whether bytes are ASCII, as std says it of each.
use Rattle.std.proofs.Common.{◌≡◌, ℕ, zero, suc, ◌≤◌, Bool, true, false, List, [], ◌∷◌, get_or, refl, sym, arith, lt-ltb, le-ltb, ltb}
use mathlib.Core.Bool.{and-false}
use Rattle.std.specs.Bool.{MatchBool}
use Rattle.std.specs.Prelude.{IsAscii}
use Rattle.std.specs.Str.{IsNotAscii}
use Rattle.reader.specs.Chars.{ascii}

all : (bytes : List ℕ) → IsAscii bytes → ascii bytes ≡ true
unfolding ascii
all [] h = refl
all (b ∷ bytes) h = rw (lt-ltb b 0x80 (h 0)) (all bytes (λ (i : ℕ). h (suc i)))

not_all : (bytes : List ℕ) (i : ℕ) → 0x80 ≤ get_or bytes i 0 → ascii bytes ≡ false
unfolding ascii
not_all [] i h = absurd (omega arith)
not_all (b ∷ bytes) zero h = rw (le-ltb b 0x80 h)
not_all (b ∷ bytes) (suc i) h = rw (not_all bytes i h) (and-false (ltb b 0x80))

pub each : {r : Bool} (bytes : List ℕ) → MatchBool r (IsAscii bytes) (IsNotAscii bytes) → r ≡ ascii bytes
each {r = true} bytes h = sym (all bytes h)
each {r = false} bytes h = sym (not_all bytes h.0 h.1)
