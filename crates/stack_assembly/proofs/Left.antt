-- What a call leaves in both stacks, step by step (`Moved`), and so in the buffers that are lent.
use Rattle.std.proofs.Common.{ℕ, zero, suc, max, ◌+◌, ◌-◌, ◌<◌, ◌≤◌, false, List, [], ◌∷◌, ◌≡◌, refl, sym, ap, ◌∙◌, arith, length, length-append, take, drop, reverse, get_or}
use Rattle.std.proofs.lemmas.List.{drop-take, length-reverse}
use Rattle.std.proofs.Math.Seq.{drop-append-add}
use Rattle.base.proofs.Tests.{cond_by}
use Rattle.stack_assembly.specs.Script.{Script, script_in}
use Rattle.stack_assembly.specs.Machine.{Stack, depth, Store, Machine, Done}
use Rattle.stack_assembly.specs.Step.{step}
use Rattle.stack_assembly.specs.Run.{followed, run, Call, step_call, run_call, clear_call, push_call, pop_call, read_call, write_call, performed}
use Rattle.stack_assembly.specs.Host.{Lent, buffer_of, machine_of, lent_of, forged, fresh}
use Rattle.stack_assembly.specs.Promise.{defined, Made, called, called_all}
use Rattle.stack_assembly.specs.Evaluator.{Buffers, begun}
use Rattle.stack_assembly.specs.Reached.{operand_depth, call_depth, reached_after, reached_in_run, reached_in_call, greatest_depth}
use Rattle.stack_assembly.specs.Left.{Zeros, ZerosAbove, released_operands, released_calls, ReleasedZero, AsLong, Untouched}
use Rattle.stack_assembly.proofs.Live.{above-back}
use Rattle.stack_assembly.proofs.Calls.{whole, standing, unforged_after}
use Rattle.stack_assembly.specs.Refusals.{Single}
use Rattle.stack_assembly.proofs.Moved.{StackMoves, StoreMoves, rests, then}
use Rattle.stack_assembly.proofs.Refused.{Standing, step-leaves, single-leaves}

-- ---- a call on the machine

module _ (s : Script) where
  -- a first step, by its number, and what comes after it
  followed_moves : (m : Machine) → Standing m → (rest : Machine → Done) (ro rc : Machine → ℕ)
      → (let first : Machine = (step s m).machine in StoreMoves (ro first) (rc first) first.store (rest first).machine.store)
      → (n : ℕ) → StoreMoves (max (operand_depth m.store) (reached_after operand_depth (step s m) n ro)) (max (call_depth m.store) (reached_after call_depth (step s m) n rc))
      m.store (followed (step s m) n rest).machine.store
  unfolding followed reached_after
  followed_moves m h rest ro rc w zero =
      let first : Machine = (step s m).machine in
      let v = (step-leaves s m h).moves in
      record {
        operands = then m.store.operands first.store.operands _ (ro first) v.operands w.operands;
        calls = then m.store.calls first.store.calls _ (rc first) v.calls w.calls;
        memory = v.memory ∙ w.memory;
      }
  followed_moves m h rest ro rc w (suc n) = (step-leaves s m h).moves

  run_moves : (b : ℕ) (m : Machine) → Standing m → StoreMoves (reached_in_run operand_depth s b m) (reached_in_run call_depth s b m) m.store (run s b m).machine.store
  unfolding run reached_in_run
  run_moves zero m h = record { operands = rests m.store.operands; calls = rests m.store.calls; memory = refl }
  run_moves (suc b) m h =
      followed_moves m h (λ m₁. run s b m₁) (λ m₁. reached_in_run operand_depth s b m₁) (λ m₁. reached_in_run call_depth s b m₁)
      (run_moves b (step s m).machine (step-leaves s m h).standing) (step s m).answer.number

  call_moves : (c : Call) (m : Machine) → Standing m → StoreMoves (reached_in_call operand_depth s c m) (reached_in_call call_depth s c m) m.store (performed s c m).machine.store
  unfolding performed reached_in_call
  call_moves step_call m h = (single-leaves s Single.step m h).moves
  call_moves (run_call b) m h = run_moves b m h
  call_moves clear_call m h = (single-leaves s Single.clear m h).moves
  call_moves (push_call w) m h = (single-leaves s (Single.push w) m h).moves
  call_moves pop_call m h = (single-leaves s Single.pop m h).moves
  call_moves (read_call a) m h = (single-leaves s (Single.read a) m h).moves
  call_moves (write_call a w) m h = (single-leaves s (Single.write a w) m h).moves

-- ---- what is lent

buffer_length : (a : Stack) → length (buffer_of a) ≡ depth a + length a.above
buffer_length a = length-append (reverse a.live) a.above ∙ ap (λ (n : ℕ). n + length a.above) (length-reverse a.live)

drop_buffer : (a : Stack) (n : ℕ) → depth a ≤ n → drop n (buffer_of a) ≡ drop (n - depth a) a.above
drop_buffer a n h =
    let e : n ≡ length (reverse a.live) + (n - depth a) = omega (arith, length-reverse a.live, h) in
    ap (λ (k : ℕ). drop k (buffer_of a)) e ∙ drop-append-add (reverse a.live) a.above (n - depth a)

buffer_kept : (a b : Stack) (reach : ℕ) → StackMoves reach a b → drop reach (buffer_of b) ≡ drop reach (buffer_of a)
buffer_kept a b reach r = drop_buffer b reach r.to ∙ sym (r.kept reach (omega arith)) ∙ sym (drop_buffer a reach r.from)

as_long_buffer : (a b : Stack) (reach : ℕ) → StackMoves reach a b → length (buffer_of b) ≡ length (buffer_of a)
as_long_buffer a b reach r = buffer_length b ∙ sym r.places ∙ sym (buffer_length a)

zeros_at : (n : ℕ) (ws : List ℕ) → ((k : ℕ) → k < n → get_or ws k 0 ≡ 0) → Zeros (take n ws)
zeros_at zero ws h = refl
zeros_at (suc n) [] h = refl
zeros_at (suc n) (w ∷ ws) h = λ i. h 0 (omega arith) i ∷ zeros_at n ws (λ k l. h (suc k) (omega (arith, l))) i

buffer_cleared : (a b : Stack) (reach : ℕ) → StackMoves reach a b → Zeros (drop (depth b) (take reach (buffer_of b)))
buffer_cleared a b reach r =
    let e : depth b + (reach - depth b) ≡ reach = omega (arith, r.to) in
    let same : drop (depth b) (take reach (buffer_of b)) ≡ take (reach - depth b) b.above =
    ap (λ (n : ℕ). drop (depth b) (take n (buffer_of b))) (sym e) ∙ drop-take (depth b) (reach - depth b) (buffer_of b) ∙ ap (take (reach - depth b)) (above-back b) in
    rw same (zeros_at (reach - depth b) b.above (λ k l. r.cleared k (omega (arith, l))))

module _ (c : Call) (l : Lent) where
  abbrev before : Store
  before = (machine_of l).store

  abbrev after : Store
  after = (defined c l).machine.store

  module _ (f : forged l ≡ false) where
    moved : StoreMoves (greatest_depth operand_depth c l) (greatest_depth call_depth c l) before after
    moved = call_moves (script_in l.tables) c (machine_of l) (standing l f)

    back : lent_of l.tables (machine_of l) ≡ l
    back = whole l f

    operands : drop (greatest_depth operand_depth c l) (called c l).after.operand_stack ≡ drop (greatest_depth operand_depth c l) l.operand_stack
    unfolding called lent_of
    operands = rw f (buffer_kept before.operands after.operands _ moved.operands ∙ ap (λ (k : Lent). drop (greatest_depth operand_depth c l) k.operand_stack) back)

    calls : drop (greatest_depth call_depth c l) (called c l).after.call_stack ≡ drop (greatest_depth call_depth c l) l.call_stack
    unfolding called lent_of
    calls = rw f (buffer_kept before.calls after.calls _ moved.calls ∙ ap (λ (k : Lent). drop (greatest_depth call_depth c l) k.call_stack) back)

    operands_cleared : Zeros (released_operands c l)
    unfolding called lent_of
    operands_cleared = rw f (buffer_cleared before.operands after.operands _ moved.operands)

    calls_cleared : Zeros (released_calls c l)
    unfolding called lent_of
    calls_cleared = rw f (buffer_cleared before.calls after.calls _ moved.calls)

  as_long : AsLong l (called c l).after
  unfolding called lent_of machine_of
  as_long =
      cond_by (λ (x : Made). AsLong l x.after) (forged l) (λ _. record { operand_stack = refl; call_stack = refl; memory = refl })
      (λ f.
      record {
        operand_stack = as_long_buffer before.operands after.operands _ (moved f).operands ∙ ap (λ (k : Lent). length k.operand_stack) (back f);
        call_stack = as_long_buffer before.calls after.calls _ (moved f).calls ∙ ap (λ (k : Lent). length k.call_stack) (back f);
        memory = sym (moved f).memory;
      })

  zeros : ZerosAbove l → ZerosAbove (called c l).after
  unfolding called lent_of machine_of
  zeros z =
      cond_by (λ (x : Made). ZerosAbove x.after) (forged l) (λ _. z)
      (λ f. record { operands = rw above-back ((moved f).operands.zeros z.operands); calls = rw above-back ((moved f).calls.zeros z.calls) })

lengths : (calls : List Call) (l : Lent) → AsLong l (called_all calls l).after
unfolding called_all
lengths [] l = record { operand_stack = refl; call_stack = refl; memory = refl }
lengths (c ∷ calls) l =
    let first = as_long c l in
    let more = lengths calls (called c l).after in
    record { operand_stack = more.operand_stack ∙ first.operand_stack; call_stack = more.call_stack ∙ first.call_stack; memory = more.memory ∙ first.memory }

stay : (calls : List Call) (l : Lent) → ZerosAbove l → ZerosAbove (called_all calls l).after
unfolding called_all
stay [] l z = z
stay (c ∷ calls) l z = stay calls (called c l).after (zeros c l z)

pub untouched : Untouched
untouched = record { operands = operands; calls = calls; unforged = λ c l f. unforged_after l f c; lengths = lengths }

begun-zeros : (text : List ℕ) (b : Buffers) → Zeros b.operand_stack → Zeros b.call_stack → ZerosAbove (begun text b)
unfolding begun fresh
begun-zeros text b o c = record { operands = o; calls = c }

pub released_zero : ReleasedZero
released_zero = record { operands = operands_cleared; calls = calls_cleared; stay = stay; zeros = λ text b o c calls. stay calls (begun text b) (begun-zeros text b o c) }
