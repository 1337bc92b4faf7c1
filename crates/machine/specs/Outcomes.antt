-- The definition's store and outcome, as the code holds them.
use Rattle.std.specs.Prelude.{ℕ, ◌≡◌, Result, Ok, Err, Option, Some, None}
use Rattle.stack_assembly.specs.Machine.{Store, Outcome, continues, raises, refuses}
use Rattle.answers.specs.declared.effect.Effect.{Effect}
use Rattle.store.specs.declared.stop.Stop.{Stop}
use Rattle.store.specs.declared.stop.Stop.TheVariants.{Raised, Refused}
use Rattle.store.specs.Stacks.{stack_of, SameBuffer}
use Rattle.store.specs.Memory.{SameWords}
use Rattle.machine.specs.declared.machine.Machine.{Machine}

abbrev pub store_of : Machine → Store
store_of m = record { next = m.next; operands = stack_of m.operands.stack; calls = stack_of m.calls.stack; memory = m.memory.words.now }

-- how an operator ended, and the store that it left
abbrev pub outcome_of : Result (Unit {0}) Stop → Store → Outcome
outcome_of (Ok _) m = continues m
outcome_of (Err (Raised e)) m = raises e m
outcome_of (Err (Refused r)) m = refuses r

-- the same lent buffers
pub record SameBuffers (a b : Machine) : Type 0 where
  pub operands : SameBuffer a.operands.stack b.operands.stack
  pub calls : SameBuffer a.calls.stack b.calls.stack
  pub memory : SameWords a.memory b.memory

-- a refusal leaves all as it was
abbrev pub Unchanged : Result (Unit {0}) Stop → (before after : Store) → Type 0
Unchanged (Ok _) m n = Unit
Unchanged (Err (Raised _)) m n = Unit
Unchanged (Err (Refused _)) m n = n ≡ m

-- the buffers stay, and no operator touches the effect that stands
pub record Rest (r : Result (Unit {0}) Stop) (a b : Machine) : Type 0 where
  pub refused : Unchanged r (store_of a) (store_of b)
  pub same : SameBuffers a b
  pub effect : b.effect ≡ a.effect
  pub effect_operator : b.effect_operator ≡ a.effect_operator

-- what an operator comes to, by the definition
pub record Comes (o : Outcome) (r : Result (Unit {0}) Stop) (a b : Machine) : Type 0 where
  pub outcome : outcome_of r (store_of b) ≡ o
  pub rest : Rest r a b

-- ---- the effect that stands is taken away

-- with its operator
abbrev pub with_operator : Option Effect → (operator : ℕ) → Option (Effect × ℕ)
with_operator None operator = None
with_operator (Some e) operator = Some (e, operator)

abbrev pub cleared_of : Machine → Option (Effect × ℕ)
cleared_of m = with_operator m.effect m.effect_operator

abbrev pub Cleared : Machine → Machine → Type 0
Cleared a b = b ≡ record { next = a.next; effect = None; effect_operator = 0; operands = a.operands; calls = a.calls; memory = a.memory }
