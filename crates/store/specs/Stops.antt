-- What a division that has no result raises.
use Rattle.word.specs.declared.division.DivisionError.{DivisionError}
use Rattle.word.specs.declared.division.DivisionError.TheVariants.{ByZero, Overflow}
use Rattle.answers.specs.declared.effect.Effect.{Effect}
use Rattle.answers.specs.declared.effect.Effect.TheVariants.{DivisionByZero, IntegerOverflow}

abbrev pub division_effect : DivisionError → Effect
division_effect ByZero = DivisionByZero
division_effect Overflow = IntegerOverflow
