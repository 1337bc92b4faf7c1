-- Two that differ in the words above their stacks' tops, the second with so many words more there: a list of calls comes to the same, as far as
-- `Wider` says. So from a text, whatever words the stacks hold that it is begun with.
use Rattle.std.proofs.Common.{ℕ, ◌+◌, ◌-◌, ◌≤◌, false, List, [], ◌∷◌, ◌≡◌, refl, sym, ap, ◌∙◌, arith, length, replicate}
use Rattle.std.proofs.lemmas.List.{append-nil, replicate-append-replicate}
use Rattle.stack_assembly.specs.Answer.{is_limit}
use Rattle.stack_assembly.specs.Script.{CompileAnswer, Tables, script_in}
use Rattle.stack_assembly.specs.Machine.{Machine, Done}
use Rattle.stack_assembly.specs.Run.{Call, performed}
use Rattle.stack_assembly.specs.Host.{Lent, top_first, machine_of, lent_of, forged, fresh}
use Rattle.stack_assembly.specs.Promise.{defined, called, called_all}
use Rattle.stack_assembly.specs.Evaluator.{Buffers, compiled, begun, SameState}
use Rattle.stack_assembly.specs.Sizes.{NoLimit}
use Rattle.stack_assembly.proofs.Live.{live-back, machine-back}
use Rattle.stack_assembly.proofs.Larger.{first_free, later_free}
use Rattle.stack_assembly.proofs.Wider.{spread, wide, wide_done, IfMore, performed_wider}
use Rattle.stack_assembly.proofs.Calls.{whole, called_is, unforged_after}
use Rattle.stack_assembly.proofs.Compile.{script_by, begun-script, begun-fits}

module _ (o c : List ℕ) where
  pub record Alike (l₁ l₂ : Lent) : Type 0 where
    pub machine : wide o c (machine_of l₁) ≡ wide [] [] (machine_of l₂)
    pub script : script_in l₁.tables ≡ script_in l₂.tables
    pub first : forged l₁ ≡ false
    pub second : forged l₂ ≡ false

  state_of : (t₁ t₂ : Tables) (m₁ m₂ : Machine) → wide o c m₁ ≡ wide [] [] m₂ → SameState (lent_of t₁ m₁) (lent_of t₂ m₂)
  unfolding lent_of
  state_of t₁ t₂ m₁ m₂ e =
      record {
        state = λ i.
            record {
              next = (e i).store.next;
              operand_depth = length (e i).store.operands.live;
              call_depth = length (e i).store.calls.live;
              effect = (e i).effect;
              effect_operator = (e i).effect_operator;
            };
        operands = live-back m₁.store.operands ∙ ap (λ (m : Machine). m.store.operands.live) e ∙ sym (live-back m₂.store.operands);
        calls = live-back m₁.store.calls ∙ ap (λ (m : Machine). m.store.calls.live) e ∙ sym (live-back m₂.store.calls);
        memory = ap (λ (m : Machine). m.store.memory) e;
      }

  module _ {l₁ l₂ : Lent} (a : Alike l₁ l₂) where
    pub same_state : SameState l₁ l₂
    same_state = rw (whole l₁ a.first, whole l₂ a.second) at (state_of l₁.tables l₂.tables (machine_of l₁) (machine_of l₂) a.machine)

    module _ (x : Call) (f : IfMore o c (is_limit (called x l₁).answer.number ≡ false)) where
      done_alike : wide_done o c (defined x l₁) ≡ wide_done [] [] (defined x l₂)
      done_alike =
          sym (performed_wider o c (script_in l₁.tables) x (machine_of l₁) (λ more. rw (called_is l₁ a.first x) at (f more)))
          ∙ (λ i. performed (a.script i) x (a.machine i)) ∙ performed_wider [] [] (script_in l₂.tables) x (machine_of l₂) (λ more. absurd (omega arith))

      same_answer : (called x l₁).answer ≡ (called x l₂).answer
      same_answer = rw (called_is l₁ a.first x, called_is l₂ a.second x) (ap (λ (d : Done). d.answer) done_alike)

      after_alike : Alike (called x l₁).after (called x l₂).after
      unfolding lent_of
      after_alike =
          let u = unforged_after l₁ a.first x in
          let v = unforged_after l₂ a.second x in
          rw (called_is l₁ a.first x, called_is l₂ a.second x)
          (record {
            machine = rw (machine-back l₁.tables (defined x l₁).machine, machine-back l₂.tables (defined x l₂).machine) (ap (λ (d : Done). d.machine) done_alike);
            script = a.script;
            first = rw (called_is l₁ a.first x) at u;
            second = rw (called_is l₂ a.second x) at v;
          })

  pub all_alike : (calls : List Call) (l₁ l₂ : Lent) → Alike l₁ l₂ → IfMore o c (NoLimit (called_all calls l₁).answers)
      → ((called_all calls l₁).answers ≡ (called_all calls l₂).answers) × Alike (called_all calls l₁).after (called_all calls l₂).after
  unfolding called_all
  all_alike [] l₁ l₂ a f = (refl, a)
  all_alike (x ∷ calls) l₁ l₂ a f =
      let one : IfMore o c (is_limit (called x l₁).answer.number ≡ false) = λ more. first_free (f more) in
      let (answers, after) = all_alike calls (called x l₁).after (called x l₂).after (after_alike a x one) (λ more. later_free (f more)) in
      ((λ i. same_answer a x one i ∷ answers i), after)

-- as many zeros as the second buffer has words more
abbrev pub more_words : (b₁ b₂ : List ℕ) → List ℕ
more_words b₁ b₂ = replicate (length b₂ - length b₁) 0

spread_more : (b₁ b₂ : List ℕ) → length b₁ ≤ length b₂ → spread (more_words b₁ b₂) b₁ ≡ spread [] b₂
spread_more b₁ b₂ h =
    replicate-append-replicate (length b₁) (length b₂ - length b₁) 0
    ∙ (let n : length b₁ + (length b₂ - length b₁) ≡ length b₂ = omega arith in rw n (sym (append-nil (replicate (length b₂) 0))))

pub begun-unforged : (text : List ℕ) (b : Buffers) → forged (begun text b) ≡ false
unfolding forged begun fresh
begun-unforged text b = let fits = begun-fits text b in grind (arith, fits.operators, fits.labels)

module _ (text : List ℕ) (b₁ b₂ : Buffers) (same : compiled text b₁ ≡ compiled text b₂) where
  pub same_script : script_in (begun text b₁).tables ≡ script_in (begun text b₂).tables
  same_script = begun-script text b₁ ∙ ap (λ (a : CompileAnswer). script_by text a.number) same ∙ sym (begun-script text b₂)

  pub begun_alike : length b₁.memory ≡ length b₂.memory → length b₁.operand_stack ≤ length b₂.operand_stack → length b₁.call_stack ≤ length b₂.call_stack
      → Alike (more_words b₁.operand_stack b₂.operand_stack) (more_words b₁.call_stack b₂.call_stack) (begun text b₁) (begun text b₂)
  unfolding begun fresh machine_of top_first
  begun_alike m o c =
      let os = spread_more b₁.operand_stack b₂.operand_stack o in
      let cs = spread_more b₁.call_stack b₂.call_stack c in
      record {
        machine = λ i.
            record {
              store = record { next = 0; operands = record { live = []; above = os i }; calls = record { live = []; above = cs i }; memory = replicate (m i) 0 };
              effect = 0;
              effect_operator = 0;
            };
        script = same_script;
        first = begun-unforged text b₁;
        second = begun-unforged text b₂;
      }
