use Rattle.std.proofs.Common.{arith}
use Rattle.std.proofs.lemmas.Grind.{common_steps}
use Rattle.stack_assembly.specs.Run.{read_call, performed, host_read}
use Rattle.eval.proofs.Calls.{lent_called}
use Rattle.eval.proofs.eval.Eval.read.Goals as goal

pub returns-in-Ok-clause-called : goal.returns-in-Ok-clause-called
unfolding performed host_read
returns-in-Ok-clause-called c = lent_called c.in_ok-machine.ensures (read_call c.args.address) c.put_back.ensures _ (grind (arith, common_steps))

pub returns-in-Err-clause-called : goal.returns-in-Err-clause-called
unfolding performed host_read
returns-in-Err-clause-called c = lent_called c.in_ok-machine.ensures (read_call c.args.address) c.put_back.ensures _ (grind (arith, common_steps))
