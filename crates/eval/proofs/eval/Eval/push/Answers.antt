use Rattle.std.proofs.Common.{arith}
use Rattle.std.proofs.lemmas.Grind.{common_steps}
use Rattle.stack_assembly.specs.Run.{push_call, performed, host_pushed}
use Rattle.eval.proofs.Calls.{lent_called}
use Rattle.eval.proofs.eval.Eval.push.Goals as goal

pub returns-clause-called : goal.returns-clause-called
unfolding performed host_pushed
returns-clause-called c = lent_called c.in_ok-machine.ensures (push_call c.args.word) c.put_back.ensures _ (grind (arith, common_steps))
