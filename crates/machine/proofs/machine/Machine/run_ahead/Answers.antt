use Rattle.std.proofs.Common.{arith}
use Rattle.machine.proofs.UnderWay.{none_made, step_stops}
use Rattle.machine.proofs.machine.Machine.run_ahead.Goals as goal

pub returns-clause-ran : goal.returns-clause-ran
returns-clause-ran g c =
    let s = g.S.Operators.says c.args.script.now in
    rw c.ended.ensures (step_stops (none_made s c.args.budget c.args.self.now) (omega arith) c.stand.result (c.stand.ensures.stepped s))
