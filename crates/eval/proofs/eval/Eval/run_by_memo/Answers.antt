use Rattle.std.proofs.Common.{◌∙◌, ap}
use Rattle.records.specs.Lent.{says}
use Rattle.stack_assembly.specs.Run.{run_call, performed}
use Rattle.eval.proofs.Calls.{lent_called, none_stands}
use Rattle.eval.proofs.eval.Eval.run_by_memo.Goals as goal

pub run-ran-requires : goal.run-ran-requires
run-ran-requires g c = none_stands c.in-Ok.ensures c.requires.effect

pub returns-clause-called : goal.returns-clause-called
unfolding performed
returns-clause-called g c =
    lent_called c.in-Ok.ensures (run_call c.args.budget) c.put_back.ensures _ (rw (ap says c.new-script.ensures ∙ c.in-Ok.ensures.script) at c.run-ran.ensures.ran.done)
