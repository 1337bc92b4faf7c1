-- A memo stays right where an entry that is right is put into it.
use Rattle.std.proofs.Common.{◌≡◌, ℕ, zero, suc, List, [], ◌∷◌, set, refl}
use Rattle.stack_assembly.specs.Script.{Script}
use Rattle.stack_assembly.specs.Step.{fetched}
use Rattle.script.specs.declared.memo.Entry.{Entry}
use Rattle.script.specs.Memory.{place_of, operator_of, Remembers}

pub remembered : (s : Script) (known : List Entry) (at : ℕ) (e : Entry) → Remembers s known → operator_of e ≡ fetched s (place_of e) → Remembers s (set known at e)
remembered s [] at e all is i n = absurd (n refl)
remembered s (x ∷ known) zero e all is zero n = is
remembered s (x ∷ known) zero e all is (suc i) n = all (suc i) n
remembered s (x ∷ known) (suc at) e all is zero n = all zero n
remembered s (x ∷ known) (suc at) e all is (suc i) n = remembered s known at e (λ j. all (suc j)) is i n
