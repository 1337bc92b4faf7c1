-- A step, by the definition.
use Rattle.std.specs.Prelude.{ℕ, ◌≡◌, Result, Ok, Err}
use Rattle.stack_assembly.specs.Answer.{Answer, answer, refused, number}
use Rattle.stack_assembly.specs.Script.{Script}
use Rattle.stack_assembly.specs.Machine as definition
use Rattle.stack_assembly.specs.Step.{step}
use Rattle.answers.specs.Effects.{standing_number}
use Rattle.machine.specs.declared.machine.Machine.{Machine}
use Rattle.machine.specs.declared.steps.Ended.{Ended}
use Rattle.machine.specs.declared.steps.Ended.TheVariants.{Raised, Refused}
use Rattle.machine.specs.Outcomes.{store_of, SameBuffers}

abbrev pub machine_of : Machine → definition.Machine
machine_of m = record { store = store_of m; effect = standing_number m.effect; effect_operator = m.effect_operator }

-- what ended a step or a run, as it is answered after so many steps; the value of an effect is its operator
abbrev pub ended_answer : Ended → (steps : ℕ) → Answer
ended_answer (Raised e operator) steps = answer (number e) operator steps
ended_answer (Refused r) steps = refused r steps

-- a refused step does not count
abbrev pub counted_by : Ended → ℕ
counted_by (Raised e operator) = 1
counted_by (Refused r) = 0

abbrev pub step_answer : Result (Unit {0}) Ended → Answer
step_answer (Ok _) = answer 0 0 1
step_answer (Err ended) = ended_answer ended (counted_by ended)

pub record Stepped (s : Script) (r : Result (Unit {0}) Ended) (a b : Machine) : Type 0 where
  pub done : record { answer = step_answer r; machine = machine_of b } ≡ step s (machine_of a)
  pub same : SameBuffers a b
