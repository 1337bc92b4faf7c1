-- What a call on what is lent comes to, where 25 is not answered: what it comes to on the machine, which 25 does not refuse either.
use Rattle.std.proofs.Common.{ℕ, zero, suc, ◌≤◌, false, ◌∷◌, ◌≡◌, refl, ap, ◌∙◌, arith, length, length-append, replicate}
use Rattle.std.proofs.lemmas.List.{length-reverse}
use Rattle.stack_assembly.specs.Answer.{answer}
use Rattle.stack_assembly.specs.Script.{Tables, script_in, operator_capacity, label_capacity}
use Rattle.stack_assembly.specs.Machine.{Stack, depth, Machine}
use Rattle.stack_assembly.specs.Step.{step}
use Rattle.stack_assembly.specs.Run.{Call, step_call, performed}
use Rattle.stack_assembly.specs.Host.{Lent, buffer_of, machine_of, lent_of, forged}
use Rattle.stack_assembly.specs.Promise.{defined, Made, called, AllMade, called_all}
use Rattle.stack_assembly.specs.Refusals.{Steps}
use Rattle.stack_assembly.proofs.Live.{machine-back, lent-back}
use Rattle.stack_assembly.proofs.Refused.{Standing, StepsTo, step-leaves, call-counts}

pub record Fits (t : Tables) : Type 0 where
  pub operators : t.operator_count ≤ operator_capacity t.operators
  pub labels : t.label_count ≤ label_capacity t.labels

pub record Unforged (l : Lent) : Type 0 where
  pub operand_depth : l.state.operand_depth ≤ length l.operand_stack
  pub call_depth : l.state.call_depth ≤ length l.call_stack
  pub tables : Fits l.tables
  pub effect : l.state.effect ≤ 11

false_unforged : (l : Lent) → forged l ≡ false → Unforged l
unfolding forged
false_unforged l e =
    record {
      operand_depth = grind (arith, e);
      call_depth = grind (arith, e);
      tables = record { operators = grind (arith, e); labels = grind (arith, e) };
      effect = grind (arith, e);
    }

depth-fits : (s : Stack) → depth s ≤ length (buffer_of s)
depth-fits s = simp (length-append, length-reverse) (omega arith)

lent-unforged : (t : Tables) (m : Machine) → Fits t → Standing m → forged (lent_of t m) ≡ false
unfolding forged lent_of
lent-unforged t m fits h = grind (arith, depth-fits m.store.operands, depth-fits m.store.calls, fits.operators, fits.labels, h)

module _ (l : Lent) (f : forged l ≡ false) where
  pub whole : lent_of l.tables (machine_of l) ≡ l
  whole = let u = false_unforged l f in lent-back l u.operand_depth u.call_depth

  -- the effect that stands, as the machine has it
  pub standing : Standing (machine_of l)
  unfolding machine_of
  standing = (false_unforged l f).effect

  pub called_is : (c : Call) → called c l ≡ record { answer = (defined c l).answer; after = lent_of l.tables (defined c l).machine }
  unfolding called
  called_is c = rw f refl

  pub unforged_after : (c : Call) → forged (called c l).after ≡ false
  unforged_after c =
      rw (called_is c)
      (lent-unforged l.tables (defined c l).machine (false_unforged l f).tables (call-counts (script_in l.tables) c (machine_of l) standing).standing)

-- ---- single steps

steps_from : (t : Tables) → Fits t → (k : ℕ) (m n : Machine) → Standing m → StepsTo (script_in t) k m n → Steps k (lent_of t m) (lent_of t n)
unfolding called_all lent_of performed
steps_from t fits zero m n h e = rw e refl
steps_from t fits (suc k) m n h (made, later) =
    let s = script_in t in
    let first : called step_call (lent_of t m) ≡ record { answer = answer 0 0 1; after = lent_of t (step s m).machine } =
    called_is (lent_of t m) (lent-unforged t m fits h) step_call ∙ rw (machine-back t m, made) refl in
    ap (λ (x : Made). record { answers = x.answer ∷ (called_all (replicate k step_call) x.after).answers; after = (called_all (replicate k step_call) x.after).after }) first
    ∙ ap (λ (x : AllMade). record { answers = answer 0 0 1 ∷ x.answers; after = x.after }) (steps_from t fits k (step s m).machine n (step-leaves s m h).standing later)

pub steps : (l : Lent) (f : forged l ≡ false) (k : ℕ) (n : Machine) → StepsTo (script_in l.tables) k (machine_of l) n → Steps k l (lent_of l.tables n)
steps l f k n e = rw (whole l f) at (steps_from l.tables (false_unforged l f).tables k (machine_of l) n (standing l f) e)
