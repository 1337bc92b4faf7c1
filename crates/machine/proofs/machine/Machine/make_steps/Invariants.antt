use Rattle.std.proofs.Common.{◌≡◌, ◌<◌, None}
use Rattle.machine.specs.Runs.{UnderWay}
use Rattle.machine.proofs.machine.Machine.make_steps.Given as goal

abbrev pub invariant-loop-step : goal.invariant-loop-step
invariant-loop-step g l = record {
  under_way : UnderWay (g.S.Operators.says l.initial.script) l.budget l.step l.initial.self l.self;
  effect : l.step < l.budget → l.self.effect ≡ None;
  script : g.S.Operators.says l.script ≡ g.S.Operators.says l.initial.script;
}
