-- A step: what the next operator is (the enum of the code says what it can be), what evaluating it comes to, and what the step then answers and leaves.
use Rattle.std.specs.Prelude.{ℕ, zero, suc, ◌+◌, cond, List, [], ◌∷◌, drop}
use Rattle.std.specs.Prelude.{Option, None as none, Some as some}
use Rattle.names.specs.Names.{same_bytes}
pub use Rattle.words.specs.declared.fetched.Fetched.{Fetched}
pub use Rattle.words.specs.declared.fetched.Fetched.TheVariants.{Past as past, Damaged as damaged, Integer as pushes, Unresolved as unresolved, Word as word, Unknown as unknown}
use Rattle.word.specs.Word.{wrap}
use Rattle.stack_assembly.specs.Answer.{number, Damaged, OperandStackFull, InvalidReference, OutOfOperators, UnknownIdentifier}
use Rattle.stack_assembly.specs.Script.{Operator, Label, Script, part, damaged_operator, damaged_label}
use Rattle.stack_assembly.specs.Words.{Word, words, lookup}
use Rattle.stack_assembly.specs.Machine.{depth, has_room, Store, Machine, Outcome, continues, raises, refuses, Done, done, refused_with, with_next, with_store, with_effect, push}
use Rattle.stack_assembly.specs.Operators.{evaluated}

-- A reference: labels are examined in order, `place` being the first's, up to the first whose name has the same bytes.
unfoldable pub resolved : (text name : List ℕ) (place : ℕ) → List Label → Fetched
resolved text name place [] = unresolved
resolved text name place (l ∷ later) =
    cond (damaged_label text l) (damaged place)
    (cond (same_bytes (part text l.start l.end) name) (pushes l.operator) (resolved text name (place + 1) later))

-- An identifier: one of the 30 words, or unknown.
abbrev pub identified : Option Word → Fetched
identified none = unknown
identified (some w) = word w

-- By the record's kind; a reference's name is its range without the `@`.
unfoldable pub of_kind : (kind : ℕ) → Script → Operator → Fetched
of_kind zero s o = identified (lookup (part s.text o.start o.end) words)
of_kind (suc zero) s o = pushes o.value
of_kind (suc (suc k)) s o = resolved s.text (part s.text (o.start + 1) o.end) 0 s.labels

-- The first of the operators from a place on.
unfoldable pub fetched_from : Script → (place : ℕ) → List Operator → Fetched
fetched_from s place [] = past
fetched_from s place (o ∷ later) = cond (damaged_operator s.text o) (damaged place) (of_kind o.kind s o)

unfoldable pub fetched : Script → (next : ℕ) → Fetched
fetched s next = fetched_from s next (drop next s.operators)

-- 27, with the depth: a word is to be pushed and the operand stack is full.
unfoldable pub pushed : ℕ → Store → Outcome
pushed w m = cond (has_room m.operands) (continues (push w m)) (refuses (OperandStackFull (depth m.operands)))

-- What evaluating the operator comes to: effect 8 past the last one, 6 without a label, 10 for an unknown word; 26 for a damaged record.
unfoldable pub outcome : Fetched → Store → Outcome
outcome past m = raises OutOfOperators m
outcome (damaged place) m = refuses (Damaged place)
outcome (pushes w) m = pushed w m
outcome unresolved m = raises InvalidReference m
outcome (word w) m = evaluated w m
outcome unknown m = raises UnknownIdentifier m

-- Next goes up by one, and from 4294967295 to 0.
abbrev pub advanced : Store → Store
advanced m = with_next m (wrap (m.next + 1))

-- What a step on machine m answers: 0, or the effect, which then stands with its operator; a refused step advances nothing and counts nothing.
unfoldable pub settled : Machine → Outcome → Done
settled m (continues s) = done 0 0 1 (with_store m s)
settled m (raises e s) = done (number e) m.store.next 1 (with_effect (with_store m s) (number e) m.store.next)
settled m (refuses r) = refused_with r 0 m

-- A step advances next in any case; where an effect stands it answers that and does no more, else it evaluates the operator.
unfoldable pub step_under : (effect : ℕ) → Script → Machine → Done
step_under zero s m = settled m (outcome (fetched s m.store.next) (advanced m.store))
step_under (suc e) s m = done (suc e) m.effect_operator 1 (with_store m (advanced m.store))

unfoldable pub step : Script → Machine → Done
step s m = step_under m.effect s m
