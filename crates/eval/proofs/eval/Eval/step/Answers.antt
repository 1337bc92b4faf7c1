use Rattle.stack_assembly.specs.Run.{step_call, performed}
use Rattle.eval.proofs.Calls.{lent_called}
use Rattle.eval.proofs.eval.Eval.step.Goals as goal

pub returns-clause-called : goal.returns-clause-called
unfolding performed
returns-clause-called c = lent_called c.in_ok-script.ensures step_call c.put_back.ensures _ (rw c.in_ok-script.ensures.script at c.step-stepped.ensures.stepped.done)
