-- What is lent is not forged where no test of 25 says so.
use Rattle.std.proofs.Common.{◌≡◌, ◌≤◌, false, length, arith, Option, Some, None}
use Rattle.std.proofs.lemmas.Bool.{le-ltb}
use Rattle.answers.specs.Effects.{number, standing_number, last_effect}
use Rattle.answers.specs.declared.effect.Effect.{Effect}
use Rattle.answers.specs.declared.effect.Effect.TheVariants.{AssertionFailed}
use Rattle.stack_assembly.specs.Script.{over_capacity}
use Rattle.stack_assembly.specs.Host.{Lent, forged}

pub none_greater : (e : Option Effect) → standing_number e ≤ last_effect
unfolding number
none_greater None = omega arith
none_greater (Some AssertionFailed) = omega arith
none_greater (Some _) = omega arith

pub whole : (l : Lent) → over_capacity l.tables ≡ false → l.state.operand_depth ≤ length l.operand_stack → l.state.call_depth ≤ length l.call_stack
    → l.state.effect ≤ last_effect → forged l ≡ false
unfolding forged
whole l tables operands calls effect =
    rw
    (le-ltb (length l.operand_stack) l.state.operand_depth operands, le-ltb (length l.call_stack) l.state.call_depth calls, tables, le-ltb last_effect l.state.effect effect)
