-- New `Tokens` have all tokens left. The answer `refl` stays: the search does not look into `tokens_at` and `tokens`, also with both in `#[tactic(unfolding)]`.
use Rattle.std.proofs.Common.{refl}
use Rattle.std.proofs.lemmas.Str.{IsCharBoundary-start}
use Rattle.tokens.specs.Tokens.{tokens_at, tokens}
use Rattle.utf8.specs.Utf8.{chars_at, chars}
use Rattle.tokens.proofs.tokens.Tokens.new.Goals as goal

pub invariant_of-result : goal.invariant_of-result
invariant_of-result c = record { apart = IsCharBoundary-start c.args.text.now c.utf8.text }

pub returns : goal.returns
unfolding tokens_at tokens chars_at chars
returns c = refl
