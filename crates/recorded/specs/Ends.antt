-- What an evaluation leaves, as it was recorded.
use Rattle.std.specs.Prelude.{◌≡◌, take}
use Rattle.eval.specs.declared.eval.Eval.{Eval}
use Rattle.recorded.specs.declared.case.End.{End}

-- both stacks up to their depths, and the memory
abbrev pub EndsAs : Eval → End → Type 0
EndsAs eval end =
    (take eval.state.operand_depth eval.operand_stack.now ≡ end.operands.now)
    × (take eval.state.call_depth eval.call_stack.now ≡ end.calls.now)
    × (eval.memory.now ≡ end.memory.now)
