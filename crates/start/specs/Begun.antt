-- The start of an evaluation, by the definition.
use Rattle.std.specs.Prelude.{ℕ, List, Result, MatchResult, ◌≡◌}
use Rattle.stack_assembly.specs.Script.{compile, rejected}
use Rattle.stack_assembly.specs.Evaluator as evaluator
use Rattle.stack_assembly.specs.Evaluator.{begun}
use Rattle.stack_assembly.specs.Script.{CompileError}
use Rattle.eval.specs.declared.eval.Eval.{Eval}
use Rattle.eval.specs.Lends.{lent_of}
use Rattle.start.specs.declared.buffers.Buffers.{Buffers}

abbrev pub buffers_of : Buffers → evaluator.Buffers
buffers_of b =
    record {
      operators = b.operators.now;
      labels = b.labels.now;
      operand_stack = b.operand_stack.now;
      call_stack = b.call_stack.now;
      memory = b.memory.now;
    }

-- an accepted text with a fresh state, or the refusal
pub record Accepts (text : List ℕ) (b : evaluator.Buffers) (e : Eval) : Type 0 where
  pub accepted : (compile text b.operators b.labels).answer.number ≡ 0
  pub begun : lent_of e ≡ begun text b

abbrev pub Begins : (text : List ℕ) → evaluator.Buffers → Result Eval CompileError → Type 0
Begins text b r = MatchResult r (Accepts text b) (λ e. rejected e ≡ (compile text b.operators b.labels).answer)
