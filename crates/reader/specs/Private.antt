-- What the private functions ask and promise; no public contract cites it.
use Rattle.std.specs.Prelude.{ℕ, ◌≤◌, ◌<◌, Bool, cond, List, ◌≡◌, eqb, length, slice_index}
use Rattle.utf8.specs.WhiteSpace as utf8
use Rattle.tokens.specs.Tokens as tokens
use Rattle.reader.specs.declared.scan.State.{State}
use Rattle.reader.specs.declared.scan.State.TheVariants.{Initial, Comment, Token as Held}
use Rattle.reader.specs.declared.scan.Next.{Next}
use Rattle.reader.specs.declared.scan.Next.TheVariants.{Token}

-- The least byte that may follow the first byte a of a sequence of three or four, and the greatest.
abbrev pub low_after : (a : ℕ) → ℕ
low_after a = cond (eqb a 0xE0) 0xA0 (cond (eqb a 0xF0) 0x90 0x80)

abbrev pub high_after : (a : ℕ) → ℕ
high_after a = cond (eqb a 0xED) 0x9F (cond (eqb a 0xF4) 0x8F 0xBF)

-- The bytes start with a, which is from low to high.
pub record Starts (low high a : ℕ) (bytes : List ℕ) : Type 0 where
  pub least : low ≤ a
  pub most : a ≤ high
  pub some : 0 < length bytes
  pub first : a ≡ slice_index bytes 0

-- The definition's state.
abbrev pub state_of : State → tokens.State
state_of Initial = tokens.initial
state_of Comment = tokens.comment
state_of (Held start) = tokens.token start

-- The state past a character at an offset, of which the first byte is known and whether it is white space.
abbrev pub Moved : State → (at first : ℕ) (white : Bool) → State → Type 0
Moved s at first white r =
    (v : ℕ) → white ≡ utf8.white v → eqb v 0x23 ≡ eqb first 0x23 → eqb v 0x0A ≡ eqb first 0x0A → state_of r ≡ tokens.next (state_of s) at v

-- The token that ends where no character stands, or else what is found there.
abbrev pub stopped : State → (at : ℕ) → (found : Next) → Next
stopped Initial at found = found
stopped Comment at found = found
stopped (Held start) at found = Token start at at
