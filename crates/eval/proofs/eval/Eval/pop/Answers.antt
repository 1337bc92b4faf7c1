use Rattle.std.proofs.Common.{arith}
use Rattle.std.proofs.lemmas.Grind.{common_steps}
use Rattle.stack_assembly.specs.Run.{pop_call, performed, host_popped}
use Rattle.eval.proofs.Calls.{lent_called}
use Rattle.eval.proofs.eval.Eval.pop.Goals as goal

pub returns-in-Ok-clause-called : goal.returns-in-Ok-clause-called
unfolding performed host_popped
returns-in-Ok-clause-called c = lent_called c.in_ok-machine.ensures pop_call c.put_back.ensures _ (grind (arith, common_steps))

pub returns-in-Err-clause-called : goal.returns-in-Err-clause-called
unfolding performed host_popped
returns-in-Err-clause-called c = lent_called c.in_ok-machine.ensures pop_call c.put_back.ensures _ (grind (arith, common_steps))
