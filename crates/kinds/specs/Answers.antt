-- What the answers of the code say, by the definitions.
use Rattle.std.specs.Prelude.{ℕ, Option, None, Some}
use Rattle.std.proofs.Math.Option as math
use Rattle.kinds.specs.declared.number.Radix.{Radix}
use Rattle.kinds.specs.declared.number.Radix.TheVariants.{Decimal, Hexadecimal}
use Rattle.kinds.specs.declared.kind.Kind as answer
use Rattle.kinds.specs.declared.kind.Kind.TheVariants.{Label, Reference, Integer, Identifier}
use Rattle.kinds.specs.Kinds.{Kind, label, reference, integer, identifier}

abbrev pub radix_of : Radix → ℕ
radix_of Decimal = 10
radix_of Hexadecimal = 16

-- A number, if there is one.
abbrev pub answer_of : math.Option ℕ → Option ℕ
answer_of math.none = None
answer_of (math.some n) = Some n

abbrev pub kind_answer : Kind → answer.Kind
kind_answer label = Label
kind_answer reference = Reference
kind_answer (integer bits) = Integer bits
kind_answer identifier = Identifier
