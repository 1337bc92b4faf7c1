-- What the answers of the code say of tokens.
use Rattle.std.specs.Prelude.{ℕ, ◌+◌, List, [], ◌∷◌, drop}
use Rattle.std.proofs.Math.Option.{Option, none, some}
use Rattle.utf8.specs.Utf8.{Front, nothing, ill_formed, scalar, front, chars_at, ill_formed_at}
use Rattle.reader.specs.declared.scan.Next as next
use Rattle.reader.specs.declared.scan.Next.TheVariants.{Token, IllFormed, End}
use Rattle.tokens.specs.Tokens as tokens

-- How many bytes it takes; 0 where there is none.
unfoldable pub width_of : Front → ℕ
width_of nothing = 0
width_of ill_formed = 0
width_of (scalar value width) = width

-- The first of the tokens, with the offset past the character that ends it; without a token, where the text is ill-formed, if it is.
unfoldable pub next_of : (text : List ℕ) → List tokens.Token → (ill_formed_at : Option ℕ) → next.Next
next_of text (t ∷ later) i = Token t.start t.end (t.end + width_of (front (drop t.end text)))
next_of text [] (some at) = IllFormed at
next_of text [] none = End

-- What stands next from an offset on.
abbrev pub next_at : (text : List ℕ) (from : ℕ) → next.Next
next_at text from = next_of text (tokens.tokens_at text from) (ill_formed_at (chars_at text from))

-- Where to read on: past the token, or at the same offset if there is none.
abbrev pub past_of : next.Next → (at : ℕ) → ℕ
past_of (Token start end past) at = past
past_of (IllFormed i) at = at
past_of End at = at
