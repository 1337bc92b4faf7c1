-- A stack in its lent buffer, and what its methods do to it.
use Rattle.std.specs.Prelude.{ℕ, [], ◌∷◌, ◌≡◌, cond, ltb, get_or, Option, Some, None, Result, Ok, Err}
use Rattle.stack_assembly.specs.Machine as definition
use Rattle.stack_assembly.specs.Machine.{depth, has_room, with_word, released}
use Rattle.stack_assembly.specs.Operators.{without}
use Rattle.stack_assembly.specs.Host.{stack_in}
use Rattle.store.specs.declared.stack.Stack.{Stack}
use Rattle.answers.specs.declared.refusal.Refusal.{Refusal}

unfoldable pub stack_of : Stack → definition.Stack
stack_of s = stack_in s.depth s.words.now

-- the top is taken away, or none is there
abbrev pub Popped : Option ℕ → definition.Stack → definition.Stack → Type 0
Popped None a b = (a.live ≡ []) × (b ≡ a)
Popped (Some w) a b = (a.live ≡ w ∷ b.live) × (b ≡ released b.live a)

-- a push, refused where there is no room
abbrev pub pushed : (full : ℕ → Refusal) (word : ℕ) → definition.Stack → Result (Unit {0}) Refusal × definition.Stack
pushed full w s = cond (has_room s) (Ok tt, with_word w s) (Err (full (depth s)), s)

-- the word at an index from the top
abbrev pub word_at : (index : ℕ) → definition.Stack → Option ℕ
word_at i s = cond (ltb i (depth s)) (Some (get_or s.live i 0)) None

-- the word at an index from the top is taken away; none is there
abbrev pub removed : (index : ℕ) → definition.Stack → Option ℕ × definition.Stack
removed i s = cond (ltb i (depth s)) (Some (get_or s.live i 0), released (without i s.live) s) (None, s)

-- the same lent buffer
abbrev pub SameBuffer : Stack → Stack → Type 0
SameBuffer a b = b.words.ghost_name ≡ a.words.ghost_name

-- the word of an answer, whatever the error
abbrev pub found : {E : Type 0} → Result ℕ E → Option ℕ
found (Ok w) = Some w
found (Err _) = None
