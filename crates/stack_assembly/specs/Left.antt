-- What calls leave in lent buffers: zero where a word was released, and all as it was from the greatest depth on that they reach.
use Rattle.std.specs.Prelude.{ℕ, false, List, ◌≡◌, length, take, drop, replicate}
use Rattle.stack_assembly.specs.Run.{Call}
use Rattle.stack_assembly.specs.Host.{Lent, forged}
use Rattle.stack_assembly.specs.Promise.{called, called_all}
use Rattle.stack_assembly.specs.Evaluator.{Buffers, worked}
use Rattle.stack_assembly.specs.Reached.{operand_depth, call_depth, greatest_depth}

abbrev pub Zeros : List ℕ → Type 0
Zeros ws = ws ≡ replicate (length ws) 0

-- Both stacks' words from the depth on.
pub record ZerosAbove (l : Lent) : Type 0 where
  pub operands : Zeros (drop l.state.operand_depth l.operand_stack)
  pub calls : Zeros (drop l.state.call_depth l.call_stack)

-- The words of a stack that a call leaves between its depth and the greatest depth that it reaches there.
abbrev pub released_operands : Call → Lent → List ℕ
released_operands c l = drop (called c l).after.state.operand_depth (take (greatest_depth operand_depth c l) (called c l).after.operand_stack)

abbrev pub released_calls : Call → Lent → List ℕ
released_calls c l = drop (called c l).after.state.call_depth (take (greatest_depth call_depth c l) (called c l).after.call_stack)

pub record ReleasedZero : Type 0 where
  -- these are zero
  pub operands : (c : Call) (l : Lent) → forged l ≡ false → Zeros (released_operands c l)
  pub calls : (c : Call) (l : Lent) → forged l ≡ false → Zeros (released_calls c l)
  -- and zeros from both depths on stay so, whatever else is lent
  pub stay : (calls : List Call) (l : Lent) → ZerosAbove l → ZerosAbove (called_all calls l).after
  -- so from a text, on stacks of zeros, after any list of calls
  pub zeros : (text : List ℕ) (b : Buffers) → Zeros b.operand_stack → Zeros b.call_stack → (calls : List Call) → ZerosAbove (worked text b calls).after

-- Each buffer is as long as it was.
pub record AsLong (before after : Lent) : Type 0 where
  pub operand_stack : length after.operand_stack ≡ length before.operand_stack
  pub call_stack : length after.call_stack ≡ length before.call_stack
  pub memory : length after.memory ≡ length before.memory

pub record Untouched : Type 0 where
  -- a call leaves the words of each stack from the greatest depth on that it reaches there
  pub operands : (c : Call) (l : Lent) → forged l ≡ false
      → drop (greatest_depth operand_depth c l) (called c l).after.operand_stack ≡ drop (greatest_depth operand_depth c l) l.operand_stack
  pub calls : (c : Call) (l : Lent) → forged l ≡ false → drop (greatest_depth call_depth c l) (called c l).after.call_stack ≡ drop (greatest_depth call_depth c l) l.call_stack
  -- what 25 does not refuse it does not refuse after the call either: each depth is within its buffer
  pub unforged : (c : Call) (l : Lent) → forged l ≡ false → forged (called c l).after ≡ false
  -- any list of calls leaves buffers of the same lengths
  pub lengths : (calls : List Call) (l : Lent) → AsLong l (called_all calls l).after
