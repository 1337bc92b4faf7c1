-- What is counted and written is what stands before the tokens that are left; the tables are the ones that were lent.
use Rattle.std.proofs.Common.{◌≡◌}
use Rattle.tokens.specs.Reading.{tokens_left}
use Rattle.compile.proofs.Passing.{Passing}
use Rattle.compile.proofs.pass.pass.Given as goal

abbrev pub invariant-loop-token : goal.invariant-loop-token
invariant-loop-token l =
    record {
      passed : Passing l.text l.initial.operators.words.now l.initial.labels.words.now l.operators.words.now l.labels.words.now (tokens_left l.token-iterator) l.operators.count l.labels.count;
      operators : l.operators.words.ghost_name ≡ l.initial.operators.words.ghost_name;
      labels : l.labels.words.ghost_name ≡ l.initial.labels.words.ghost_name;
    }
