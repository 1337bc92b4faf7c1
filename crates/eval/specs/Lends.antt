-- What a call is lent, by the definition.
use Rattle.std.specs.Prelude.{◌≡◌, true, false, Result, MatchResult}
use Rattle.stack_assembly.specs.Answer as answer
use Rattle.stack_assembly.specs.Script.{Tables, script_in}
use Rattle.stack_assembly.specs.Host as host
use Rattle.stack_assembly.specs.Host.{forged}
use Rattle.answers.specs.Effects.{standing_number}
use Rattle.answers.specs.declared.refusal.Refusal.{Refusal}
use Rattle.answers.specs.declared.refusal.Refusal.TheVariants.{Forged}
use Rattle.records.specs.Lent.{tables_of, says}
use Rattle.records.specs.declared.script.Script.{Script}
use Rattle.machine.specs.declared.machine.Machine.{Machine}
use Rattle.eval.specs.declared.state.State.{State}
use Rattle.eval.specs.declared.answer.Answer.{Answer}
use Rattle.eval.specs.declared.eval.Eval.{Eval}

abbrev pub state_of : State → host.State
state_of s =
    record {
      next = s.next_operator;
      operand_depth = s.operand_depth;
      call_depth = s.call_depth;
      effect = s.effect;
      effect_operator = s.effect_operator;
    }

abbrev pub lent_of : Eval → host.Lent
lent_of e =
    record {
      state = state_of e.state;
      tables = tables_of e.tables;
      operand_stack = e.operand_stack.now;
      call_stack = e.call_stack.now;
      memory = e.memory.now;
    }

abbrev pub answer_of : Answer → answer.Answer
answer_of a = answer.answer a.number a.value a.steps

-- the same script, in the same buffers
pub record SameLent (a b : Eval) : Type 0 where
  pub tables : b.tables ≡ a.tables
  pub operand_stack : b.operand_stack.ghost_name ≡ a.operand_stack.ghost_name
  pub call_stack : b.call_stack.ghost_name ≡ a.call_stack.ghost_name
  pub memory : b.memory.ghost_name ≡ a.memory.ghost_name

-- ---- the machine that a call works on

-- what is lent with a machine
abbrev pub left : Tables → Machine → host.Lent
left t m =
    record {
      state = record {
        next = m.next;
        operand_depth = m.operands.stack.depth;
        call_depth = m.calls.stack.depth;
        effect = standing_number m.effect;
        effect_operator = m.effect_operator;
      };
      tables = t;
      operand_stack = m.operands.stack.words.now;
      call_stack = m.calls.stack.words.now;
      memory = m.memory.words.now;
    }

-- its buffers are those that are lent
pub record LentWords (e : Eval) (m : Machine) : Type 0 where
  pub operand_stack : m.operands.stack.words.ghost_name ≡ e.operand_stack.ghost_name
  pub call_stack : m.calls.stack.words.ghost_name ≡ e.call_stack.ghost_name
  pub memory : m.memory.words.ghost_name ≡ e.memory.ghost_name

-- it has the state and the buffers, and the script is what the tables hold
pub record Taken (a : Eval) (m : Machine) (s : Script) (b : Eval) : Type 0 where
  pub unforged : forged (lent_of a) ≡ false
  pub lent : lent_of a ≡ left (tables_of b.tables) m
  pub words : LentWords a m
  pub tables : b.tables ≡ a.tables
  pub script : says s ≡ script_in (tables_of b.tables)

-- 25 leaves all as it was
pub record Refuses (a : Eval) (r : Refusal) (b : Eval) : Type 0 where
  pub refusal : r ≡ Forged
  pub forged : forged (lent_of a) ≡ true
  pub same : b ≡ a

abbrev pub Takes : Eval → Result (Script × Machine) Refusal → Eval → Type 0
Takes a r b = MatchResult r (λ taken. Taken a taken.1 taken.0 b) (λ refusal. Refuses a refusal b)

pub record PutBack (a : Eval) (m : Machine) (b : Eval) : Type 0 where
  pub lent : lent_of b ≡ left (tables_of a.tables) m
  pub words : LentWords b m
  pub tables : b.tables ≡ a.tables
