-- A record whose part of the text spells a word.
use Rattle.std.proofs.Common.{sym}
use Rattle.stack_assembly.specs.Script.{operator_in}
use Rattle.script.proofs.Fetched.{raw_word}
use Rattle.script.proofs.fetch.fetch.Goals as goal

pub returns-in-Some : goal.returns-in-Some
returns-in-Some c =
    sym (raw_word c.args.script c.args.next (operator_in c.raw.result) (rw c.capacity.ensures at c.if-at-capacity.true) c.raw.ensures c.if-kind-eq-IDENTIFIER.true c.in-Some.ensures)
