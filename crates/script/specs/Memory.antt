-- What a memo has, and what it may rely on: an entry that holds an operator has what is fetched at its index.
use Rattle.std.specs.Prelude.{ℕ, ◌+◌, ◌-◌, ◌%◌, cond, List, ◌≡◌, ltb, get_or, set}
use Rattle.stack_assembly.specs.Script.{Script}
use Rattle.stack_assembly.specs.Step.{Fetched, past, pushes, word, fetched}
use Rattle.script.specs.declared.memo.Entry.{Entry}
use Rattle.script.specs.declared.memo.Entry.TheVariants.{Empty, Integer, Word}

abbrev pub place_of : Entry → ℕ
place_of Empty = 0
place_of (Integer next value) = next
place_of (Word next w) = next

abbrev pub operator_of : Entry → Fetched
operator_of Empty = past
operator_of (Integer next value) = pushes value
operator_of (Word next w) = word w

abbrev pub Remembers : Script → (known : List Entry) → Type 0
Remembers s known = (i : ℕ) → (get_or known i Empty ≡ Empty → ⊥) → operator_of (get_or known i Empty) ≡ fetched s (place_of (get_or known i Empty))

-- the place of an operator among n: the first own have one each, the others share the rest by their index
abbrev pub place : (n own next : ℕ) → ℕ
place n own next = cond (ltb next own) next (own + next % (n - own))

-- what was fetched at an index is at its place then, if it is an integer or a word; nothing else has changed
abbrev pub remembered : Fetched → (next place : ℕ) → List Entry → List Entry
remembered (pushes value) next place known = set known place (Integer next value)
remembered (word w) next place known = set known place (Word next w)
remembered _ next place known = known
