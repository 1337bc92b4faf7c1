-- The greatest depth that a stack reaches in a call, where `depth` is that of the one or the other.
use Rattle.std.specs.Prelude.{ℕ, zero, suc, max}
use Rattle.stack_assembly.specs.Script.{Script, script_in}
use Rattle.stack_assembly.specs.Machine.{depth, Store, Machine, Done}
use Rattle.stack_assembly.specs.Step.{step}
use Rattle.stack_assembly.specs.Run.{Call, run_call, performed}
use Rattle.stack_assembly.specs.Host.{Lent, machine_of}

abbrev pub operand_depth : Store → ℕ
operand_depth m = depth m.operands

abbrev pub call_depth : Store → ℕ
call_depth m = depth m.calls

-- In a run, after a first step, by its number.
unfoldable pub reached_after : (depth : Store → ℕ) (first : Done) (number : ℕ) → (rest : Machine → ℕ) → ℕ
reached_after depth first zero rest = rest first.machine
reached_after depth first (suc n) rest = depth first.machine.store

-- In a run, over all its steps: an operator pops all that it pops before it pushes.
unfoldable pub reached_in_run : (depth : Store → ℕ) → Script → (budget : ℕ) → Machine → ℕ
reached_in_run depth s zero m = depth m.store
reached_in_run depth s (suc budget) m =
    max (depth m.store) (reached_after depth (step s m) (step s m).answer.number (λ m₁. reached_in_run depth s budget m₁))

-- In any other call, before it or after it.
unfoldable pub reached_in_call : (depth : Store → ℕ) → Script → Call → Machine → ℕ
reached_in_call depth s (run_call budget) m = reached_in_run depth s budget m
reached_in_call depth s c m = max (depth m.store) (depth (performed s c m).machine.store)

-- In a call on what is lent.
abbrev pub greatest_depth : (depth : Store → ℕ) → Call → Lent → ℕ
greatest_depth depth c l = reached_in_call depth (script_in l.tables) c (machine_of l)
