use Rattle.std.proofs.Common.{rules}
use Rattle.eval.proofs.Places.{entry_forged, entry_absent, entry_zero, entry_there}
use Rattle.eval.proofs.entries.call_stack.Goals as goal

pub returns-then-call_stack-call_depth : goal.returns-then-call_stack-call_depth
returns-then-call_stack-call_depth c = entry_forged c.args.call_depth c.args.call_stack.now c.args.place c.if-call_stack-call_depth.true

pub returns-then-call_depth-place : goal.returns-then-call_depth-place
returns-then-call_depth-place c = entry_absent c.args.call_depth c.args.call_stack.now c.args.place c.if-call_stack-call_depth.false c.if-call_depth-place.true

pub returns-in-0 : goal.returns-in-0
returns-in-0 c = entry_zero c.args.call_depth c.args.call_stack.now c.args.place c.if-call_stack-call_depth.false c.if-call_depth-place.false c.in-0.is

pub returns-in_default : goal.returns-in_default
returns-in_default c = entry_there c.args.call_depth c.args.call_stack.now c.args.place c.if-call_stack-call_depth.false c.if-call_depth-place.false (λ e. search (rules, e))
