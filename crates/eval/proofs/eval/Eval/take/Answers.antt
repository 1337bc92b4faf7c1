use Rattle.std.proofs.Common.{rules, arith}
use Rattle.std.proofs.lemmas.Grind.{common_steps}
use Rattle.eval.specs.Lends.{lent_of}
use Rattle.eval.proofs.Whole.{whole, none_greater}
use Rattle.eval.proofs.eval.Eval.take.Goals as goal

pub returns : goal.returns
returns c =
    record {
      unforged = whole (lent_of c.args.self.now) (search rules) (grind (arith, common_steps)) (grind (arith, common_steps)) (grind (arith, common_steps, none_greater c.in_ok-effect.effect));
      lent = grind (arith, common_steps);
      words = search rules;
      tables = search rules;
      script = search rules;
    }
