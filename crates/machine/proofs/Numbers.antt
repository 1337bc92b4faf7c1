-- The number of an effect, and a step where one stands.
use Rattle.std.proofs.Common.{◌≡◌, ◌-◌, suc, refl}
use Rattle.stack_assembly.specs.Answer.{number}
use Rattle.stack_assembly.specs.Script.{Script}
use Rattle.stack_assembly.specs.Machine.{Machine, done, with_store}
use Rattle.stack_assembly.specs.Step.{advanced, step_under}
use Rattle.answers.specs.declared.effect.Effect.{Effect}
use Rattle.answers.specs.declared.effect.Effect.TheVariants as effect

-- an effect has a number from 1 on
pub positive : (x : Effect) → number x ≡ suc (number x - 1)
unfolding number
positive effect.AssertionFailed = refl
positive _ = refl

-- a step where an effect stands
pub standing : (x : Effect) (s : Script) (m : Machine) → step_under (number x) s m ≡ done (number x) m.effect_operator 1 (with_store m (advanced m.store))
unfolding step_under
standing x s m = rw (positive x) refl
