-- Runs, by the definition.
use Rattle.std.specs.Prelude.{ℕ, ◌+◌, ◌-◌, ◌≡◌, ◌≤◌, ◌<◌, None}
use Rattle.stack_assembly.specs.Script.{Script}
use Rattle.stack_assembly.specs.Machine.{Done, done}
use Rattle.stack_assembly.specs.Run.{run}
use Rattle.machine.specs.declared.machine.Machine.{Machine}
use Rattle.machine.specs.declared.runs.Ran.{Ran}
use Rattle.machine.specs.declared.runs.Ahead.{Ahead}
use Rattle.machine.specs.declared.runs.Ahead.TheVariants.{Ended, TurnedBack}
use Rattle.machine.specs.Outcomes.{SameBuffers}
use Rattle.machine.specs.Steps.{machine_of, ended_answer}

pub record Runs (s : Script) (budget : ℕ) (r : Ran) (a b : Machine) : Type 0 where
  pub steps : r.steps ≤ budget
  pub done : record { answer = ended_answer r.ended r.steps; machine = machine_of b } ≡ run s budget (machine_of a)
  pub same : SameBuffers a b

-- ---- a run that is under way

abbrev pub counted : (steps : ℕ) → Done → Done
counted n d = done d.answer.number d.answer.value (n + d.answer.steps) d.machine

-- after so many steps, the rest of it is a run from there
pub record UnderWay (s : Script) (budget steps : ℕ) (a b : Machine) : Type 0 where
  pub run : run s budget (machine_of a) ≡ counted steps (run s (budget - steps) (machine_of b))
  pub same : SameBuffers a b

-- where it turned back no effect stands, and the budget is not used
pub record MayGoOn (s : Script) (budget made : ℕ) (a b : Machine) : Type 0 where
  pub left : made < budget
  pub effect : b.effect ≡ None
  pub under_way : UnderWay s budget made a b

abbrev pub RunsAhead : Script → (budget : ℕ) → Ahead → Machine → Machine → Type 0
RunsAhead s budget (Ended r) a b = Runs s budget r a b
RunsAhead s budget (TurnedBack steps) a b = MayGoOn s budget steps a b

abbrev pub IsEnded : Ahead → Type 0
IsEnded (Ended r) = Unit {0}
IsEnded (TurnedBack steps) = ⊥
