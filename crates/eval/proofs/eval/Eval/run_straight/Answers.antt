use Rattle.std.proofs.Common.{arith}
use Rattle.std.proofs.lemmas.Grind.{common_steps}
use Rattle.stack_assembly.specs.Host.{forged}
use Rattle.stack_assembly.specs.Run.{run_call, performed}
use Rattle.eval.proofs.Calls.{lent_called, went_on}
use Rattle.eval.proofs.eval.Eval.run_straight.Goals as goal

pub returns-in-Ended-clause-called : goal.returns-in-Ended-clause-called
unfolding performed
returns-in-Ended-clause-called c = lent_called c.in-Ok.ensures (run_call c.args.budget) c.put_back.ensures _ (rw c.in-Ok.ensures.script at c.in-Ended.ensures.ran.done)

pub returns-in-TurnedBack-clause-called : goal.returns-in-TurnedBack-clause-called
unfolding forged
returns-in-TurnedBack-clause-called c =
    went_on c.run_on-rest.new.self c.in-Ok.ensures c.put_back.ensures c.in-TurnedBack.ensures.ran (grind (arith, common_steps)) c.run_on-rest.result.ended c.run_on-rest.result.steps
    c.run_on-rest.ensures.called
