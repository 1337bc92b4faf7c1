-- What an operator makes of both stacks: words come and go one at a time, so that a buffer stays as long as it was, zeros above a top stay, and words
-- from the greatest depth on stay.
use Rattle.std.proofs.Common.{ℕ, zero, suc, max, ◌+◌, ◌-◌, ◌≤◌, ◌<◌, true, List, [], ◌∷◌, ◌≡◌, refl, sym, ap, ◌∙◌, arith, ⊎_elim, ltb, ltb-true, length, drop, get_or, length-drop}
use Rattle.std.proofs.lemmas.List.{drop-drop, get_or-drop, length-set}
use Rattle.std.proofs.lemmas.Grind.{get_or_after_one}
use Rattle.std.proofs.lemmas.Bool.{cases_lt}
use Rattle.base.proofs.Tests.{cond_by}
use Rattle.word.specs.Word.{Division, by_zero, overflow, parts, divide}
use Rattle.stack_assembly.specs.Words.{Word, div, count_ones, leading_zeros, trailing_zeros, copy, drop as drop_word, jump, jump_if, call, call_either, return, assert, yield, read, write}
use Rattle.stack_assembly.specs.Machine.{Stack, depth, has_room, with_word, released, Store, Outcome, continues, raises, refuses, with_next, with_operands, push, pop_from}
use Rattle.stack_assembly.specs.Operators.{unary, binary, divided, without, copied, dropped, jumped_if, entered, called, called_either, returned, asserted, read_at, written_at, evaluated}
use Rattle.stack_assembly.specs.Step.{Fetched, past, damaged, pushes, unresolved, word, unknown, pushed, outcome}
use Rattle.stack_assembly.specs.Left.{Zeros}

-- ---- one stack

-- from one to another, none between being deeper than `reach`
pub record StackMoves (reach : ℕ) (a b : Stack) : Type 0 where
  pub from : depth a ≤ reach
  pub to : depth b ≤ reach
  pub places : depth a + length a.above ≡ depth b + length b.above
  pub zeros : Zeros a.above → Zeros b.above
  pub kept : (most : ℕ) → reach ≤ most → drop (most - depth a) a.above ≡ drop (most - depth b) b.above
  pub cleared : (k : ℕ) → depth b + k < reach → get_or b.above k 0 ≡ 0

abbrev pub Moved : Stack → Stack → Type 0
Moved a b = StackMoves (max (depth a) (depth b)) a b

pub rests : (a : Stack) → StackMoves (depth a) a a
rests a = record { from = omega arith; to = omega arith; places = refl; zeros = λ z. z; kept = λ most h. refl; cleared = λ k l. absurd (omega (arith, l)) }

pub stays : (a : Stack) → Moved a a
stays a = record { from = omega arith; to = omega arith; places = refl; zeros = λ z. z; kept = λ most h. refl; cleared = λ k l. absurd (omega (arith, l)) }

-- where two lists agree from two places on, so do their words
same_word : (n m i : ℕ) (xs ys : List ℕ) → drop n xs ≡ drop m ys → get_or xs (n + i) 0 ≡ get_or ys (m + i) 0
same_word n m i xs ys e = sym (get_or-drop n xs i 0) ∙ ap (λ (ws : List ℕ). get_or ws i 0) e ∙ get_or-drop m ys i 0

pub then : (a b c : Stack) (reach : ℕ) → Moved a b → StackMoves reach b c → StackMoves (max (depth a) reach) a c
then a b c reach m r =
    record {
      from = omega arith;
      to = omega (arith, r.to);
      places = m.places ∙ r.places;
      zeros = λ z. r.zeros (m.zeros z);
      kept = λ most h. m.kept most (omega (arith, h, r.from)) ∙ r.kept most (omega (arith, h));
      cleared = λ k l.
          ⊎_elim (λ low. r.cleared k low)
          (λ high.
          let i = depth c + k - reach in
          let at : reach - depth c + i ≡ k = omega (arith, high, r.to) in
          let same = same_word (reach - depth b) (reach - depth c) i b.above c.above (r.kept reach (omega arith)) in
          rw at at (sym same ∙ m.cleared (reach - depth b + i) (omega (arith, high, r.from, l))))
          (cases_lt (depth c + k) reach);
    }

-- a word was released first
pub releases : (a b : Stack) (left : List ℕ) → depth a ≡ suc (length left) → Moved (released left a) b → Moved a b
releases a b left e m =
    record {
      from = omega arith;
      to = omega arith;
      places = omega (arith, m.places, e);
      zeros = λ z. m.zeros (ap (λ (ws : List ℕ). 0 ∷ ws) z);
      kept = λ most h. let n : most - length left ≡ suc (most - depth a) = omega (arith, e, h) in rw n at (m.kept most (omega (arith, e, h)));
      cleared = λ k l.
          ⊎_elim (λ low. m.cleared k low)
          (λ high.
          let none : length left - length left + 0 ≡ 0 = omega arith in
          let at : length left - depth b + 0 ≡ k = omega (arith, high, l, e) in
          sym (rw (none, at) at (same_word (length left - length left) (length left - depth b) 0 (0 ∷ a.above) b.above (m.kept (length left) (omega (arith, high, l, e))))))
          (cases_lt (depth b + k) (max (length left) (depth b)));
    }

drop-zeros : (ws : List ℕ) → Zeros ws → Zeros (drop 1 ws)
drop-zeros [] z = refl
drop-zeros (w ∷ ws) z = ap (drop 1) z

-- a word was pushed at the end
pushes_on : (a b : Stack) (w : ℕ) → 0 < length b.above → Moved a b → Moved a (with_word w b)
pushes_on a b w room m =
    record {
      from = omega arith;
      to = omega arith;
      places = omega (arith, m.places, room, length-drop 1 b.above);
      zeros = λ z. drop-zeros b.above (m.zeros z);
      kept = λ most h.
          let n : 1 + (most - suc (depth b)) ≡ most - depth b = omega (arith, h) in
          m.kept most (omega (arith, h)) ∙ rw (drop-drop (most - suc (depth b)) 1 b.above, n) refl;
      cleared = λ k l. get_or_after_one b.above k 0 ∙ m.cleared (1 + k) (omega (arith, l));
    }

-- ---- what an operator comes to

-- from one store to another, whose call stack is known
pub record OnOperands (left : Stack) (operands : Stack) (memory : List ℕ) (n : Store) : Type 0 where
  pub moved : Moved operands n.operands
  pub calls : n.calls ≡ left
  pub words : length memory ≡ length n.memory

-- or a refusal
abbrev pub MovesOperands : (calls : Stack) → Store → Outcome → Type 0
MovesOperands c m (continues n) = OnOperands c m.operands m.memory n
MovesOperands c m (raises e n) = OnOperands c m.operands m.memory n
MovesOperands c m (refuses r) = Unit {0}

none : (m : Store) → OnOperands m.calls m.operands m.memory m
none m = record { moved = stays m.operands; calls = refl; words = refl }

-- a store from which a word was popped
abbrev gone : Store → (rest : List ℕ) → Store
gone m rest = with_operands m (released rest m.operands)

after_gone : (c : Stack) (m : Store) (w : ℕ) (rest : List ℕ) → m.operands.live ≡ w ∷ rest → (x : Outcome) → MovesOperands c (gone m rest) x → MovesOperands c m x
after_gone c m w rest e (continues n) f = record { moved = releases m.operands n.operands rest (ap length e) f.moved; calls = f.calls; words = f.words }
after_gone c m w rest e (raises x n) f = record { moved = releases m.operands n.operands rest (ap length e) f.moved; calls = f.calls; words = f.words }
after_gone c m w rest e (refuses r) f = tt

popped : (m : Store) (k : ℕ → Store → Outcome) → ((w : ℕ) (n : Store) → length m.operands.above < length n.operands.above → MovesOperands n.calls n (k w n))
    → MovesOperands m.calls m (pop_from m.operands.live m k)
unfolding pop_from
popped m k h = go m.operands.live refl
  where
    go : (ws : List ℕ) → m.operands.live ≡ ws → MovesOperands m.calls m (pop_from ws m k)
    go [] e = none m
    go (w ∷ rest) e = after_gone m.calls m w rest e (k w (gone m rest)) (h w (gone m rest) (omega arith))

pushing : (w : ℕ) (m : Store) → 0 < length m.operands.above → OnOperands m.calls m.operands m.memory (push w m)
pushing w m room = record { moved = pushes_on m.operands m.operands w room (stays m.operands); calls = refl; words = refl }

unary_moves : (f : ℕ → ℕ) (m : Store) → MovesOperands m.calls m (unary f m)
unfolding unary
unary_moves f m = popped m _ (λ w n room. pushing (f w) n (omega (arith, room)))

binary_moves : (f : ℕ → ℕ → ℕ) (m : Store) → MovesOperands m.calls m (binary f m)
unfolding binary
binary_moves f m = popped m _ (λ b n _. popped n _ (λ a k room. pushing (f a b) k (omega (arith, room))))

length-without : (ws : List ℕ) (i : ℕ) → i < length ws → length ws ≡ suc (length (without i ws))
unfolding without
length-without [] i h = absurd (omega arith)
length-without (w ∷ ws) zero h = refl
length-without (w ∷ ws) (suc i) h = ap suc (length-without ws i (omega arith))

dropped_moves : (i : ℕ) (m : Store) → MovesOperands m.calls m (dropped i m)
unfolding dropped
dropped_moves i m =
    cond_by (MovesOperands m.calls m) (ltb i (depth m.operands))
    (λ t.
    let l = length-without m.operands.live i (ltb-true i (depth m.operands) t) in
    let after : Stack = released (without i m.operands.live) m.operands in
    record { moved = releases m.operands after (without i m.operands.live) l (stays after); calls = refl; words = refl })
    (λ _. none m)

jumping : (i : ℕ) (m : Store) → OnOperands m.calls m.operands m.memory (with_next m i)
jumping i m = record { moved = stays m.operands; calls = refl; words = refl }

jumps : (condition then else : ℕ) (m : Store) → MovesOperands m.calls m (jumped_if condition then (with_next m else))
unfolding jumped_if
jumps zero then else m = jumping else m
jumps (suc c) then else m = jumping then m

asserted_moves : (condition : ℕ) (m : Store) → MovesOperands m.calls m (asserted condition m)
unfolding asserted
asserted_moves zero m = none m
asserted_moves (suc c) m = none m

-- two words were popped, so that there are two places
divided_moves : (d : Division) (m : Store) → 1 < length m.operands.above → MovesOperands m.calls m (divided d m)
unfolding divided
divided_moves by_zero m room = none m
divided_moves overflow m room = none m
divided_moves (parts q r) m room =
    let one = pushes_on m.operands m.operands q (omega arith) (stays m.operands) in
    record { moved = pushes_on m.operands (with_word q m.operands) r (omega (arith, room, length-drop 1 m.operands.above)) one; calls = refl; words = refl }

-- ---- and of the calls

-- from one store to another, between which neither stack is deeper
pub record StoreMoves (operands_reach calls_reach : ℕ) (m n : Store) : Type 0 where
  pub operands : StackMoves operands_reach m.operands n.operands
  pub calls : StackMoves calls_reach m.calls n.calls
  pub memory : length m.memory ≡ length n.memory

abbrev pub Moves : Store → Store → Type 0
Moves m n = StoreMoves (max (depth m.operands) (depth n.operands)) (max (depth m.calls) (depth n.calls)) m n

pub still : (m : Store) → Moves m m
still m = record { operands = stays m.operands; calls = stays m.calls; memory = refl }

abbrev pub MovesBoth : Store → Outcome → Type 0
MovesBoth m x = (calls : Stack) × Moved m.calls calls × MovesOperands calls m x

both : (m : Store) (x : Outcome) → MovesOperands m.calls m x → MovesBoth m x
both m x f = (m.calls, stays m.calls, f)

neither : (m : Store) → MovesBoth m (continues m)
neither m = both m (continues m) (none m)

entered_moves : (m : Store) (k : Store → Outcome) → ((n : Store) → MovesOperands n.calls n (k n)) → MovesBoth m (entered m k)
unfolding entered
entered_moves m k h =
    cond_by (MovesBoth m) (has_room m.calls)
    (λ t. (with_word m.next m.calls, pushes_on m.calls m.calls m.next (ltb-true 0 (length m.calls.above) t) (stays m.calls), h _))
    (λ _. (m.calls, stays m.calls, tt))

returned_moves : (m : Store) → MovesBoth m (returned m.calls.live m)
unfolding returned
returned_moves m = go m.calls.live refl
  where
    go : (ws : List ℕ) → m.calls.live ≡ ws → MovesBoth m (returned ws m)
    go [] e = neither m
    go (w ∷ ws) e =
        let left : Stack = released ws m.calls in
        (left, releases m.calls left ws (ap length e) (stays left), record { moved = stays m.operands; calls = refl; words = refl })

evaluated_moves : (x : Word) (m : Store) → MovesBoth m (evaluated x m)
unfolding evaluated copied read_at written_at called called_either
evaluated_moves count_ones m = both m _ (unary_moves _ m)
evaluated_moves leading_zeros m = both m _ (unary_moves _ m)
evaluated_moves trailing_zeros m = both m _ (unary_moves _ m)
evaluated_moves copy m =
    both m _ (popped m _ (λ i n room. cond_by (MovesOperands n.calls n) (ltb i (depth n.operands)) (λ _. pushing _ n (omega (arith, room))) (λ _. none n)))
evaluated_moves drop_word m = both m _ (popped m _ (λ i n _. dropped_moves i n))
evaluated_moves div m = both m _ (popped m _ (λ b n one. popped n _ (λ a k two. divided_moves (divide a b) k (omega (arith, one, two)))))
evaluated_moves read m =
    both m _ (popped m _ (λ a n room. cond_by (MovesOperands n.calls n) (ltb a (length n.memory)) (λ _. pushing _ n (omega (arith, room))) (λ _. none n)))
evaluated_moves write m =
    both m _
    (popped m _
    (λ w n _. popped n _
    (λ a k _. cond_by (MovesOperands k.calls k) (ltb a (length k.memory)) (λ _. record { moved = stays k.operands; calls = refl; words = sym (length-set k.memory a w) }) (λ _. none k))))
evaluated_moves jump m = both m _ (popped m _ (λ i n _. jumping i n))
evaluated_moves jump_if m = both m _ (popped m _ (λ i n _. popped n _ (λ c k _. jumps c i k.next k)))
evaluated_moves call m = entered_moves m called (λ n. popped n _ (λ i k _. jumping i k))
evaluated_moves call_either m =
    entered_moves m called_either (λ n. popped n _ (λ else k _. popped k _ (λ then j _. popped j _ (λ c i _. jumps c then else i))))
evaluated_moves return m = returned_moves m
evaluated_moves assert m = both m _ (popped m _ (λ c n _. asserted_moves c n))
evaluated_moves yield m = neither m
evaluated_moves _ m = both m _ (binary_moves _ m)

pushed_on : (w : ℕ) (m : Store) → has_room m.operands ≡ true → OnOperands m.calls m.operands m.memory (push w m)
pushed_on w m t = pushing w m (ltb-true 0 (length m.operands.above) t)

pub pushed_moves : (w : ℕ) (m : Store) → has_room m.operands ≡ true → Moves m (push w m)
pushed_moves w m t = record { operands = (pushed_on w m t).moved; calls = stays m.calls; memory = refl }

pub outcome_moves : (f : Fetched) (m : Store) → MovesBoth m (outcome f m)
unfolding outcome pushed
outcome_moves past m = neither m
outcome_moves (damaged place) m = (m.calls, stays m.calls, tt)
outcome_moves (pushes w) m = both m _ (cond_by (MovesOperands m.calls m) (has_room m.operands) (pushed_on w m) (λ _. tt))
outcome_moves unresolved m = neither m
outcome_moves (word w) m = evaluated_moves w m
outcome_moves unknown m = neither m

pub moves : (m n : Store) (calls : Stack) → Moved m.calls calls → OnOperands calls m.operands m.memory n → Moves m n
moves m n calls c g = record { operands = g.moved; calls = rw g.calls c; memory = g.words }
