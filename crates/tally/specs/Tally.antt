-- What tally prints: an answer, then the operands.
use Rattle.std.specs.Prelude.{ℕ, zero, suc, List, [], ◌∷◌, ◌++◌, ◌≡◌, length, reverse}
use Rattle.std.specs.List.{flat_map}
use Rattle.std.specs.Fmt.{signed_decimal}
use Rattle.std.specs.Int.{w32, cast_signed}
use Rattle.stack_assembly.specs.Answer.{Answer, answer}
use Rattle.stack_assembly.specs.Script.{CompileAnswer, compile}
use Rattle.stack_assembly.specs.Machine.{Done}
use Rattle.stack_assembly.specs.Run.{run_call}
use Rattle.stack_assembly.specs.Host.{top_first}
use Rattle.stack_assembly.specs.Promise.{defined}
use Rattle.stack_assembly.specs.Evaluator.{Buffers, begun}
use Rattle.eval.specs.Lends.{answer_of}
use Rattle.eval.specs.Text.{answer_text}
use Rattle.tally.specs.declared.tally.Tally.{Tally}

-- The operands have their top first.
pub record Printed : Type 0 where
  pub answer : Answer
  pub operands : List ℕ

-- By the number that compile answered: a refusal stands alone, with steps 0; else it is the run's answer, and the operands that the run left.
abbrev pub printed : (number value : ℕ) → (ran : Done) → Printed
printed zero value ran = record { answer = ran.answer; operands = ran.machine.store.operands.live }
printed (suc n) value ran = record { answer = answer (suc n) value 0; operands = [] }

-- A script is compiled and run once, from a fresh start, with a budget of 1,000,000.
unfoldable pub tally : (text : List ℕ) → Buffers → Printed
tally text b =
    let a : CompileAnswer = (compile text b.operators b.labels).answer in
    printed a.number a.value (defined (run_call 1000000) (begun text b))

-- ---- as text

-- An operand, as a signed number on a line of its own.
abbrev pub line_of : (word : ℕ) → List ℕ
line_of word = signed_decimal (cast_signed w32 word) ++ 10 ∷ []

-- The answer on a line, then the operands from the bottom up.
abbrev pub text_of : Answer → (operands : List ℕ) → List ℕ
text_of a operands = answer_text a ++ 10 ∷ flat_map line_of operands

abbrev pub printed_text : Printed → List ℕ
printed_text p = text_of p.answer (reverse p.operands)

-- ---- what the code prints

abbrev pub printed_by : Tally → Printed
printed_by t = record { answer = answer_of t.answer; operands = top_first (length t.operands.now) t.operands.now }

-- It is what is defined, and so is its text.
pub record Tallies (text : List ℕ) (b : Buffers) (t : Tally) : Type 0 where
  pub printed : printed_by t ≡ tally text b
  pub text_is : text_of (answer_of t.answer) t.operands.now ≡ printed_text (tally text b)
