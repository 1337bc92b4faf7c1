use Rattle.std.proofs.Common.{arith, ◌∙◌}
use Rattle.machine.proofs.UnderWay.{budget_ends, step_made, step_stops}
use Rattle.machine.proofs.machine.Machine.make_steps.Goals as goal

pub returns-in-Err-clause-ran : goal.returns-in-Err-clause-ran
returns-in-Err-clause-ran g c =
    rw c.ended.ensures (step_stops c.loop-step.invariant.under_way (omega arith) c.in-Err.end (rw c.loop-step.invariant.script at c.in-Err.ensures.stepped))

pub returns-then-step-budget-clause-ran : goal.returns-then-step-budget-clause-ran
returns-then-step-budget-clause-ran g c =
    record {
      left = omega arith;
      effect = c.in_default.ensures.effect;
      under_way = step_made c.loop-step.invariant.under_way (omega arith) (rw c.loop-step.invariant.script at c.in_default.ensures.stepped);
    }

pub loop-step-preserved : goal.loop-step-preserved
loop-step-preserved g c =
    record {
      under_way = step_made c.loop-step.invariant.under_way (omega arith) (rw c.loop-step.invariant.script at c.in_default.ensures.stepped);
      effect = λ _. c.in_default.ensures.effect;
      script = c.make_step.ensures.script ∙ c.loop-step.invariant.script;
    }

pub returns-clause-ran : goal.returns-clause-ran
returns-clause-ran g c = rw c.used-2.ensures (budget_ends c.loop-step.invariant.under_way (omega arith))

pub returns-then-self-at-clause-ran : goal.returns-then-self-at-clause-ran
returns-then-self-at-clause-ran g c =
    rw c.used.ensures
    (budget_ends (step_made c.loop-step.invariant.under_way (omega arith) (rw c.loop-step.invariant.script at c.in_default.ensures.stepped)) (omega arith))
