-- The effects, an enum of the code, and their numbers.
use Rattle.std.specs.Prelude.{ℕ, Option, Some, None}
pub use Rattle.answers.specs.declared.effect.Effect.{Effect}
pub use Rattle.answers.specs.declared.effect.Effect.TheVariants.{AssertionFailed, DivisionByZero, IntegerOverflow, InvalidAddress, InvalidOperandStackIndex, InvalidReference, OperandStackUnderflow, OutOfOperators, Return, UnknownIdentifier, Yield}

-- The number of an effect.
unfoldable pub number : Effect → ℕ
number AssertionFailed = 1
number DivisionByZero = 2
number IntegerOverflow = 3
number InvalidAddress = 4
number InvalidOperandStackIndex = 5
number InvalidReference = 6
number OperandStackUnderflow = 7
number OutOfOperators = 8
number Return = 9
number UnknownIdentifier = 10
number Yield = 11

-- No effect has a greater number.
abbrev pub last_effect : ℕ
last_effect = 11

-- The number of the effect that stands, 0 where none does.
abbrev pub standing_number : Option Effect → ℕ
standing_number None = 0
standing_number (Some e) = number e
