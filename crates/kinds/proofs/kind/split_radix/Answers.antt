-- One reading, by the prefix, finds the number that the token spells.
use Rattle.std.proofs.Common.{rules}
use Rattle.base.proofs.Parts.{to_the_end}
use Rattle.kinds.proofs.Digits.{prefixed, not_prefixed}
use Rattle.kinds.proofs.kind.split_radix.Goals.{in_default-via-then-token-lt2, in_default-via-else-token-lt2+in-48+in_default-1, in_default-via-else-token-lt2+in_default-1}
use Rattle.kinds.proofs.kind.split_radix.Goals as goal

pub returns-in-48 : goal.returns-in-48
returns-in-48 c = rw (to_the_end 2 c.args.token.now) (prefixed c.args.token.now c.in-48.len_at_least (search rules) (search rules))

pub returns-in_default : goal.returns-in_default
returns-in_default c =
    not_prefixed c.args.token.now (λ l e f. elim c.in_default.branch [
      | in_default-via-then-token-lt2 w ↦ absurd (search (rules, l))
      | in_default-via-else-token-lt2+in-48+in_default-1 w ↦ absurd (search (rules, f))
      | in_default-via-else-token-lt2+in_default-1 w ↦ absurd (search (rules, e))
    ])
