-- A run of the code, under way and at its end.
use Rattle.std.proofs.Common.{◌≡◌, ℕ, suc, ◌+◌, ◌-◌, ◌<◌, ◌≤◌, refl, sym, ap, ◌∙◌, arith, Ok, Err}
use Rattle.stack_assembly.specs.Script.{Script}
use Rattle.stack_assembly.specs.Machine as definition
use Rattle.stack_assembly.specs.Machine.{Done, done, refused_with}
use Rattle.stack_assembly.specs.Step.{step}
use Rattle.stack_assembly.specs.Run.{run, followed}
use Rattle.answers.specs.Refusals.{refusal_number}
use Rattle.answers.specs.declared.refusal.Refusal.{Refusal}
use Rattle.answers.specs.declared.refusal.Refusal.TheVariants.{Forged, BudgetUsed}
use Rattle.machine.specs.Outcomes.{SameBuffers}
use Rattle.machine.specs.Steps.{machine_of, ended_answer, counted_by, Stepped}
use Rattle.machine.specs.Runs.{Runs, counted, UnderWay}
use Rattle.machine.specs.declared.machine.Machine.{Machine}
use Rattle.machine.specs.declared.steps.Ended.{Ended}
use Rattle.machine.specs.declared.steps.Ended.TheVariants.{Raised, Refused}
use Rattle.machine.proofs.Numbers.{positive}

refusing : (r : Refusal) → refusal_number r ≡ suc (refusal_number r - 1)
refusing Forged = refl
refusing _ = refl

same_on : {a b c : Machine} → SameBuffers a b → SameBuffers b c → SameBuffers a c
same_on p q = record { operands = q.operands ∙ p.operands; calls = q.calls ∙ p.calls; memory = q.memory ∙ p.memory }

module _ (s : Script) (budget steps : ℕ) (m : definition.Machine) where
  abbrev rest : Done
  rest = counted steps (run s (budget - steps) m)

  used : steps ≡ budget → rest ≡ refused_with (BudgetUsed m.store.next) budget m
  unfolding run
  used e =
      let z : budget - steps ≡ 0 = omega arith in
      let w : steps + 0 ≡ budget = omega arith in
      rw z (ap (λ (k : ℕ). refused_with (BudgetUsed m.store.next) k m) w)

  module _ (more : steps < budget) (m' : definition.Machine) where
    fuel : budget - steps ≡ suc (budget - (steps + 1))
    fuel = omega arith

    goes : done 0 0 1 m' ≡ step s m → rest ≡ counted (steps + 1) (run s (budget - (steps + 1)) m')
    unfolding run followed
    goes e =
        let d = run s (budget - (steps + 1)) m' in
        let k : steps + suc d.answer.steps ≡ steps + 1 + d.answer.steps = omega arith in
        rw (fuel, ← e) (ap (λ (j : ℕ). done d.answer.number d.answer.value j d.machine) k)

    stops : (ended : Ended) → record { answer = ended_answer ended (counted_by ended); machine = m' } ≡ step s m
        → rest ≡ record { answer = ended_answer ended (steps + counted_by ended); machine = m' }
    unfolding run followed
    stops (Raised x operator) e = rw (fuel, ← e, positive x) refl
    stops (Refused r) e = rw (fuel, ← e, refusing r) refl

at_most_one : (ended : Ended) → counted_by ended ≤ 1
at_most_one (Raised x operator) = omega arith
at_most_one (Refused r) = omega arith

-- nothing is run yet
pub none_made : (s : Script) (budget : ℕ) (a : Machine) → UnderWay s budget 0 a a
none_made s budget a =
    let d = run s budget (machine_of a) in
    let z : budget - 0 ≡ budget = omega arith in
    let e : d.answer.steps ≡ 0 + d.answer.steps = omega arith in
    record { run = rw z (ap (λ (k : ℕ). done d.answer.number d.answer.value k d.machine) e); same = record { operands = refl; calls = refl; memory = refl } }

module _ {s : Script} {budget steps : ℕ} {a b : Machine} (g : UnderWay s budget steps a b) where
  -- the budget is used
  pub budget_ends : steps ≡ budget → Runs s budget (record { ended = Refused (BudgetUsed b.next); steps = budget }) a b
  budget_ends e = record { steps = omega arith; done = sym (g.run ∙ used s budget steps (machine_of b) e); same = g.same }

  module _ {c : Machine} (more : steps < budget) where
    pub step_made : Stepped s (Ok tt) b c → UnderWay s budget (steps + 1) a c
    step_made t = record { run = g.run ∙ goes s budget steps (machine_of b) more (machine_of c) t.done; same = same_on g.same t.same }

    -- the step that ends it
    pub step_stops : (ended : Ended) → Stepped s (Err ended) b c → Runs s budget (record { ended = ended; steps = steps + counted_by ended }) a c
    step_stops ended t =
        let few = at_most_one ended in
        record { steps = omega arith; done = sym (g.run ∙ stops s budget steps (machine_of b) more (machine_of c) ended t.done); same = same_on g.same t.same }
