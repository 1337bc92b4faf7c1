-- What the answers of the code say of a character, and of ASCII.
use Rattle.std.specs.Prelude.{ℕ, Bool, true, cond, ◌&&◌, List, [], ◌∷◌, ltb}
use Rattle.reader.specs.declared.chars.Char.{Char}
use Rattle.reader.specs.declared.chars.Char.TheVariants.{Missing, White, Other}
use Rattle.utf8.specs.Utf8.{Front, nothing, ill_formed, scalar}
use Rattle.utf8.specs.WhiteSpace.{white}

-- A character at the front: white space or another, of so many bytes.
unfoldable pub char_of : Front → Char
char_of nothing = Missing
char_of ill_formed = Missing
char_of (scalar value width) = cond (white value) (White width) (Other width)

-- Every byte is below 0x80: a character by itself.
unfoldable pub ascii : List ℕ → Bool
ascii [] = true
ascii (b ∷ bytes) = ltb b 0x80 && ascii bytes
