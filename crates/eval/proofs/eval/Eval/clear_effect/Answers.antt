use Rattle.stack_assembly.specs.Run.{clear_call, performed}
use Rattle.machine.specs.Outcomes.{store_of}
use Rattle.eval.proofs.Calls.{lent_called, clears}
use Rattle.eval.proofs.eval.Eval.clear_effect.Goals as goal

pub returns-clause-called : goal.returns-clause-called
unfolding performed
returns-clause-called c =
    let m = c.in_ok-machine.machine in
    lent_called c.in_ok-machine.ensures clear_call c.put_back.ensures _
    (rw (c.clear_effect-cleared.ensures.gives, c.clear_effect-cleared.ensures.cleared) (clears m.effect m.effect_operator (store_of m)))
