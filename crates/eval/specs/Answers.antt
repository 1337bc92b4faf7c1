-- What the calls answer, by case.
use Rattle.std.specs.Prelude.{ℕ, Option, Some, None, Result, Ok, Err}
use Rattle.stack_assembly.specs.Answer.{Answer, answer, refused, number}
use Rattle.stack_assembly.specs.Run as definition
use Rattle.answers.specs.declared.effect.Effect.{Effect}
use Rattle.answers.specs.declared.refusal.Refusal.{Refusal}
use Rattle.machine.specs.declared.runs.Ran.{Ran}
use Rattle.machine.specs.Steps.{ended_answer}
use Rattle.eval.specs.declared.call.Call.{Call}
use Rattle.eval.specs.declared.call.Call.TheVariants.{Step, Run, Clear, Push, Pop, Read, Write}

-- push and write: 0 and 0
abbrev pub done_answer : Result (Unit {0}) Refusal → Answer
done_answer (Ok _) = answer 0 0 0
done_answer (Err r) = refused r 0

-- pop, read and an entry of the call stack: 0 and the word
abbrev pub word_answer : Result ℕ Refusal → Answer
word_answer (Ok word) = answer 0 word 0
word_answer (Err r) = refused r 0

-- clear: the effect's number and operator, or 0 and 0
abbrev pub cleared_answer : Result (Option (Effect × ℕ)) Refusal → Answer
cleared_answer (Ok None) = answer 0 0 0
cleared_answer (Ok (Some e)) = answer (number e.0) e.1 0
cleared_answer (Err r) = refused r 0

-- a run
abbrev pub ran_answer : Ran → Answer
ran_answer r = ended_answer r.ended r.steps

abbrev pub call_of : Call → definition.Call
call_of Step = definition.step_call
call_of (Run budget) = definition.run_call budget
call_of Clear = definition.clear_call
call_of (Push word) = definition.push_call word
call_of Pop = definition.pop_call
call_of (Read address) = definition.read_call address
call_of (Write address word) = definition.write_call address word
