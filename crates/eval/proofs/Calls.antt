-- A host's call, by what it does to the machine that is taken out for it and put back.
use Rattle.std.proofs.Common.{ℕ, ◌+◌, ◌-◌, ◌≡◌, refl, sym, ap, ◌∙◌, arith, true, false, Option, Some, None, Ok}
use Rattle.stack_assembly.specs.Answer.{Answer, answer, refused as refused_answer, Forged}
use Rattle.stack_assembly.specs.Script.{Tables, script_in}
use Rattle.stack_assembly.specs.Machine.{Store, Done}
use Rattle.stack_assembly.specs.Run.{Call, run_call, cleared, performed}
use Rattle.stack_assembly.specs.Host as host
use Rattle.stack_assembly.specs.Host.{forged}
use Rattle.stack_assembly.specs.Promise.{Made, Called, called}
use Rattle.stack_assembly.proofs.Live.{lent-back}
use Rattle.answers.specs.Effects.{standing_number}
use Rattle.store.specs.Stacks.{stack_of}
use Rattle.answers.specs.declared.effect.Effect.{Effect}
use Rattle.machine.specs.declared.machine.Machine.{Machine}
use Rattle.machine.specs.declared.steps.Ended.{Ended}
use Rattle.machine.specs.declared.steps.Ended.TheVariants.{Raised, Refused}
use Rattle.machine.specs.Outcomes.{with_operator}
use Rattle.machine.specs.Steps.{machine_of, ended_answer}
use Rattle.machine.specs.Runs.{MayGoOn}
use Rattle.machine.proofs.Numbers.{positive}
use Rattle.eval.specs.declared.eval.Eval.{Eval}
use Rattle.eval.specs.Answers.{cleared_answer}
use Rattle.records.specs.Lent.{tables_of, says}
use Rattle.records.specs.declared.script.Script as code
use Rattle.eval.specs.Lends.{lent_of, left, Taken, PutBack}

holds : (t : Tables) (m : Machine) → host.machine_of (left t m) ≡ machine_of m
unfolding host.machine_of stack_of
holds t m = refl

leaves : (t : Tables) (m : Machine) → host.lent_of t (machine_of m) ≡ left t m
leaves t m = rw (holds t m) at (lent-back (left t m) m.operands.stack.within m.calls.stack.within)

pub refused : (e : Eval) (c : Call) → forged (lent_of e) ≡ true → Called c (lent_of e) (refused_answer Forged 0) (lent_of e)
unfolding called
refused e c f = rw f refl

-- what a call is, by what the definition makes of it on a machine
abbrev made : Tables → Done → Made
made t d = record { answer = d.answer; after = host.lent_of t d.machine }

is_made : (c : Call) (t : Tables) (m : Machine) {l : host.Lent} → l ≡ left t m → forged l ≡ false → called c l ≡ made t (performed (script_in t) c (machine_of m))
unfolding called
is_made c t m e f =
    let u = rw e at f in
    rw (e, u, holds t m) refl

pub lent_called : {a mid b : Eval} {m n : Machine} {s : code.Script} → Taken a m s mid → (c : Call) → PutBack mid n b → (w : Answer)
    → record { answer = w; machine = machine_of n } ≡ performed (script_in (tables_of mid.tables)) c (machine_of m) → Called c (lent_of a) w (lent_of b)
lent_called {mid = mid} {m = m} {n} taken c back w did =
    let t = tables_of mid.tables in
    ap (λ (l : host.Lent). record { answer = w; after = l }) (back.lent ∙ sym (leaves t n)) ∙ ap (made t) did ∙ sym (is_made c t m taken.lent taken.unforged)

-- the effect that stands is taken away
pub clears : (e : Option Effect) (operator : ℕ) (s : Store)
    → record { answer = cleared_answer (Ok (with_operator e operator)); machine = record { store = s; effect = 0; effect_operator = 0 } }
    ≡ cleared (standing_number e) (record { store = s; effect = standing_number e; effect_operator = operator })
unfolding cleared
clears None operator s = refl
clears (Some x) operator s = rw (positive x) refl

-- no effect stands where its number is 0
none : (e : Option Effect) → standing_number e ≡ 0 → e ≡ None
none None h = refl
none (Some x) h = absurd (omega (arith, positive x))

pub none_stands : {a b : Eval} {m : Machine} {s : code.Script} → Taken a m s b → a.state.effect ≡ 0 → m.effect ≡ None
none_stands {m = m} t e = none m.effect (sym (ap (λ (l : host.Lent). l.state.effect) t.lent) ∙ e)

-- a run that turned back: what was run ahead, and the call for the rest
counted_answer : (ended : Ended) (n k : ℕ) → answer (ended_answer ended k).number (ended_answer ended k).value (n + (ended_answer ended k).steps) ≡ ended_answer ended (n + k)
counted_answer (Raised e operator) n k = refl
counted_answer (Refused r) n k = refl

pub went_on : {a mid turned : Eval} {m n : Machine} {s : code.Script} (after : Eval) → Taken a m s mid → PutBack mid n turned
    → {budget steps : ℕ} → MayGoOn (says s) budget steps m n → forged (lent_of turned) ≡ false
    → (ended : Ended) (k : ℕ) → Called (run_call (budget - steps)) (lent_of turned) (ended_answer ended k) (lent_of after)
    → Called (run_call budget) (lent_of a) (ended_answer ended (steps + k)) (lent_of after)
unfolding performed
went_on {mid = mid} {m = m} {n} after taken back {budget} {steps} g f ended k rest =
    let t = tables_of mid.tables in
    rw (← counted_answer ended steps k)
    (ap (λ (x : Made). record { answer = answer x.answer.number x.answer.value (steps + x.answer.steps); after = x.after }) (rest ∙ is_made (run_call (budget - steps)) t n back.lent f)
    ∙ ap (made t) (sym (rw taken.script at g.under_way.run)) ∙ sym (is_made (run_call budget) t m taken.lent taken.unforged))
