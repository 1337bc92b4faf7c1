use Rattle.machine.proofs.machine.Machine.step.Goals as goal

pub returns-in-Some-clause-stepped : goal.returns-in-Some-clause-stepped
returns-in-Some-clause-stepped g c = c.stand.ensures.stepped (g.S.Operators.says c.args.script.now)
