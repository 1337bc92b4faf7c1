-- The definition looks at no word above a top: with other words there, and with more room, all comes as it did up to the room's end. By what an
-- operator comes to, a step, a run and a call.
use Rattle.std.proofs.Common.{ℕ, zero, suc, ◌+◌, ◌≤◌, ◌<◌, true, false, cond, List, [], ◌∷◌, ◌++◌, ◌≡◌, refl, sym, ap, ◌∙◌, arith, ltb, ltb-true, length, replicate}
use Rattle.word.specs.Word.{Division, by_zero, overflow, parts, divide}
use Rattle.stack_assembly.specs.Answer.{refusal_number, is_limit}
use Rattle.stack_assembly.specs.Script.{Script}
use Rattle.stack_assembly.specs.Words.{Word, div, count_ones, leading_zeros, trailing_zeros, copy, drop, jump, jump_if, call, call_either, return, assert, yield, read, write}
use Rattle.stack_assembly.specs.Machine.{Stack, released, Store, Machine, Outcome, continues, raises, refuses, Done, with_operands, with_calls, with_store, pop_from}
use Rattle.stack_assembly.specs.Operators.{unary, binary, divided, copied, dropped, jumped_if, entered, called, called_either, returned, asserted, read_at, written_at, evaluated}
use Rattle.stack_assembly.specs.Step.{Fetched, past, damaged, pushes, unresolved, word, unknown, fetched, pushed, outcome, advanced, settled, step_under, step}
use Rattle.stack_assembly.specs.Run.{one_more, followed, run, cleared, host_pushed, host_popped, host_read, host_written, Call, step_call, run_call, clear_call, push_call, pop_call, read_call, write_call, performed}
use Rattle.stack_assembly.proofs.Larger.{FreeDone}
use Rattle.base.proofs.Tests.{cond_by, ap_cond, absurd_bool}

-- the words above a top become zeros, and more words follow them
abbrev pub spread : (more above : List ℕ) → List ℕ
spread more above = replicate (length above) 0 ++ more

abbrev stack : (more : List ℕ) → Stack → Stack
stack more s = record { live = s.live; above = spread more s.above }

-- what comes next meets no limit
abbrev Free : Outcome → Type 0
Free (continues m) = Unit {0}
Free (raises e m) = Unit {0}
Free (refuses r) = is_limit (refusal_number r) ≡ false

there_is_room : {A : Type 0} (n : ℕ) (x full : A) → cond (ltb 0 (suc n)) x full ≡ x
there_is_room n x full = grind arith

settled-free : (m : Machine) (x : Outcome) → FreeDone (settled m x) → Free x
unfolding settled
settled-free m (continues s) h = tt
settled-free m (raises e s) h = tt
settled-free m (refuses r) h = h

followed-free : (d : Done) (n : ℕ) (rest : Machine → Done) → d.answer.number ≡ n → FreeDone (followed d n rest) → FreeDone d
unfolding followed is_limit
followed-free d zero rest z h = rw z
followed-free d (suc n) rest z h = h

module _ (o c : List ℕ) where
  abbrev pub wider : Store → Store
  wider m = record { next = m.next; operands = stack o m.operands; calls = stack c m.calls; memory = m.memory }

  abbrev widened : Outcome → Outcome
  widened (continues m) = continues (wider m)
  widened (raises e m) = raises e (wider m)
  widened (refuses r) = refuses r

  -- with more room, only where there is no limit
  abbrev pub IfMore : Type 0 → Type 0
  IfMore A = 0 < length o + length c → A

  -- a store from which a word was popped
  abbrev gone : Store → (rest : List ℕ) → Store
  gone m rest = with_operands m (released rest m.operands)

  abbrev Alike : (Store → Outcome) → Store → Type 0
  Alike f m = f (wider m) ≡ widened (f m)

  popped : (ws : List ℕ) (m : Store) (k : ℕ → Store → Outcome) → ((w : ℕ) (rest : List ℕ) → Alike (k w) (gone m rest))
      → pop_from ws (wider m) k ≡ widened (pop_from ws m k)
  unfolding pop_from
  popped [] m k h = refl
  popped (w ∷ rest) m k h = h w rest

  jumps : (condition i : ℕ) (m : Store) → Alike (jumped_if condition i) m
  unfolding jumped_if
  jumps zero i m = refl
  jumps (suc c) i m = refl

  unary_wider : (f : ℕ → ℕ) (m : Store) → Alike (unary f) m
  unfolding unary
  unary_wider f m = popped m.operands.live m _ (λ w rest. refl)

  binary_wider : (f : ℕ → ℕ → ℕ) (m : Store) → Alike (binary f) m
  unfolding binary
  binary_wider f m = popped m.operands.live m _ (λ b rest. popped rest (gone m rest) _ (λ a rest₁. refl))

  -- a quotient and a remainder, where two words were popped
  divided_wider : (d : Division) (m : Store) (rest rest₁ : List ℕ) → Alike (divided d) (gone (gone m rest) rest₁)
  unfolding divided
  divided_wider by_zero m rest rest₁ = refl
  divided_wider overflow m rest rest₁ = refl
  divided_wider (parts q r) m rest rest₁ = refl

  returned_wider : (ws : List ℕ) (m : Store) → Alike (returned ws) m
  unfolding returned
  returned_wider [] m = refl
  returned_wider (w ∷ ws) m = refl

  asserted_wider : (condition : ℕ) (m : Store) → Alike (asserted condition) m
  unfolding asserted
  asserted_wider zero m = refl
  asserted_wider (suc c) m = refl

  -- where no word is above, there is room in the wider stack only if there is more
  full_wider : {A : Type 0} (more : List ℕ) (x full : A) (n : ℕ) → is_limit n ≡ true → length more ≤ length o + length c
      → IfMore (is_limit n ≡ false) → cond (ltb 0 (length more)) x full ≡ full
  full_wider {A} more x full n l h f = cond_by (λ (y : A). y ≡ full) (ltb 0 (length more)) (λ t. absurd_bool (sym (f (omega (arith, ltb-true 0 (length more) t))) ∙ l)) (λ t. refl)

  entered_at : (above : List ℕ) (m : Store) (k : Store → Outcome) → ((n : Store) → Alike k n)
      → let n : Store = with_calls m (record { live = m.calls.live; above = above }) in IfMore (Free (entered n k)) → Alike (λ n. entered n k) n
  unfolding entered is_limit
  entered_at [] m k h f = full_wider c _ _ 28 refl (omega arith) f
  entered_at (a ∷ above) m k h f = there_is_room (length (spread c above)) _ _ ∙ h _ ∙ ap widened (sym (there_is_room (length above) _ _))

  entered_wider : (m : Store) (k : Store → Outcome) → ((n : Store) → Alike k n) → IfMore (Free (entered m k)) → Alike (λ n. entered n k) m
  entered_wider m k h f = entered_at m.calls.above m k h f

  pushed_at : (above : List ℕ) (w : ℕ) (m : Store)
      → let n : Store = with_operands m (record { live = m.operands.live; above = above }) in IfMore (Free (pushed w n)) → Alike (pushed w) n
  unfolding pushed is_limit
  pushed_at [] w m f = full_wider o _ _ 27 refl (omega arith) f
  pushed_at (a ∷ above) w m f = there_is_room (length (spread o above)) _ _ ∙ ap widened (sym (there_is_room (length above) _ _))

  evaluated_wider : (x : Word) (m : Store) → IfMore (Free (evaluated x m)) → Alike (evaluated x) m
  unfolding evaluated copied dropped read_at written_at called called_either
  evaluated_wider count_ones m f = unary_wider _ m
  evaluated_wider leading_zeros m f = unary_wider _ m
  evaluated_wider trailing_zeros m f = unary_wider _ m
  evaluated_wider copy m f = popped m.operands.live m _ (λ i rest. sym (ap_cond widened (ltb i (length rest)) _ _))
  evaluated_wider drop m f = popped m.operands.live m _ (λ i rest. sym (ap_cond widened (ltb i (length rest)) _ _))
  evaluated_wider div m f = popped m.operands.live m _ (λ b rest. popped rest (gone m rest) _ (λ a rest₁. divided_wider (divide a b) m rest rest₁))
  evaluated_wider read m f = popped m.operands.live m _ (λ a rest. sym (ap_cond widened (ltb a (length m.memory)) _ _))
  evaluated_wider write m f = popped m.operands.live m _ (λ w rest. popped rest (gone m rest) _ (λ a rest₁. sym (ap_cond widened (ltb a (length m.memory)) _ _)))
  evaluated_wider jump m f = popped m.operands.live m _ (λ i rest. refl)
  evaluated_wider jump_if m f = popped m.operands.live m _ (λ i rest. popped rest (gone m rest) _ (λ c rest₁. jumps c i (gone (gone m rest) rest₁)))
  evaluated_wider call m f = entered_wider m called (λ n. popped n.operands.live n _ (λ i rest. refl)) f
  evaluated_wider call_either m f =
      entered_wider m called_either
      (λ n. popped n.operands.live n _ (λ else r₁. popped r₁ (gone n r₁) _ (λ then r₂. popped r₂ (gone (gone n r₁) r₂) _ (λ c r₃. jumps c then _)))) f
  evaluated_wider return m f = returned_wider m.calls.live m
  evaluated_wider assert m f = popped m.operands.live m _ (λ c rest. asserted_wider c (gone m rest))
  evaluated_wider yield m f = refl
  evaluated_wider _ m f = binary_wider _ m

  outcome_wider : (x : Fetched) (m : Store) → IfMore (Free (outcome x m)) → Alike (outcome x) m
  unfolding outcome
  outcome_wider past m f = refl
  outcome_wider (damaged place) m f = refl
  outcome_wider (pushes w) m f = pushed_at m.operands.above w m f
  outcome_wider unresolved m f = refl
  outcome_wider (word x) m f = evaluated_wider x m f
  outcome_wider unknown m f = refl

  -- ---- a machine

  abbrev pub wide : Machine → Machine
  wide m = record { store = wider m.store; effect = m.effect; effect_operator = m.effect_operator }

  abbrev pub wide_done : Done → Done
  wide_done d = record { answer = d.answer; machine = wide d.machine }

  settled_wider : (m : Machine) (x : Outcome) → settled (wide m) (widened x) ≡ wide_done (settled m x)
  unfolding settled
  settled_wider m (continues s) = refl
  settled_wider m (raises e s) = refl
  settled_wider m (refuses r) = refl

  cleared_wider : (e : ℕ) (m : Machine) → cleared e (wide m) ≡ wide_done (cleared e m)
  unfolding cleared
  cleared_wider zero m = refl
  cleared_wider (suc e) m = refl

  popped_wider : (ws : List ℕ) (m : Machine) → host_popped ws (wide m) ≡ wide_done (host_popped ws m)
  unfolding host_popped
  popped_wider [] m = refl
  popped_wider (w ∷ ws) m = refl

  host_pushed_at : (above : List ℕ) (w : ℕ) (m : Machine)
      → let n : Machine = with_store m (with_operands m.store (record { live = m.store.operands.live; above = above })) in
      IfMore (FreeDone (host_pushed w n)) → host_pushed w (wide n) ≡ wide_done (host_pushed w n)
  unfolding host_pushed is_limit
  host_pushed_at [] w m f = full_wider o _ _ 27 refl (omega arith) f
  host_pushed_at (a ∷ above) w m f = there_is_room (length (spread o above)) _ _ ∙ ap wide_done (sym (there_is_room (length above) _ _))

  followed_wider : (d : Done) (rest : Machine → Done) → (IfMore (FreeDone (rest d.machine)) → rest (wide d.machine) ≡ wide_done (rest d.machine))
      → (n : ℕ) → IfMore (FreeDone (followed d n rest)) → followed (wide_done d) n rest ≡ wide_done (followed d n rest)
  unfolding followed
  followed_wider d rest more zero f = ap one_more (more f)
  followed_wider d rest more (suc n) f = refl

  module _ (s : Script) where
    under_wider : (e : ℕ) (m : Machine) → IfMore (FreeDone (step_under e s m)) → step_under e s (wide m) ≡ wide_done (step_under e s m)
    unfolding step_under
    under_wider zero m f =
        ap (settled (wide m)) (outcome_wider (fetched s m.store.next) (advanced m.store) (λ l. settled-free m _ (f l))) ∙ settled_wider m (outcome (fetched s m.store.next) (advanced m.store))
    under_wider (suc e) m f = refl

    step_wider : (m : Machine) → IfMore (FreeDone (step s m)) → step s (wide m) ≡ wide_done (step s m)
    unfolding step
    step_wider m f = under_wider m.effect m f

    run_wider : (b : ℕ) (m : Machine) → IfMore (FreeDone (run s b m)) → run s b (wide m) ≡ wide_done (run s b m)
    unfolding run
    run_wider zero m f = refl
    run_wider (suc b) m f =
        ap (λ (d : Done). followed d d.answer.number (λ m₁. run s b m₁)) (step_wider m (λ l. followed-free (step s m) _ (λ m₁. run s b m₁) refl (f l)))
        ∙ followed_wider (step s m) (λ m₁. run s b m₁) (run_wider b (step s m).machine) (step s m).answer.number f

    pub performed_wider : (c : Call) (m : Machine) → IfMore (FreeDone (performed s c m)) → performed s c (wide m) ≡ wide_done (performed s c m)
    unfolding performed host_read host_written
    performed_wider step_call m f = step_wider m f
    performed_wider (run_call b) m f = run_wider b m f
    performed_wider clear_call m f = cleared_wider m.effect m
    performed_wider (push_call w) m f = host_pushed_at m.store.operands.above w m f
    performed_wider pop_call m f = popped_wider m.store.operands.live m
    performed_wider (read_call a) m f = sym (ap_cond wide_done (ltb a (length m.store.memory)) _ _)
    performed_wider (write_call a w) m f = sym (ap_cond wide_done (ltb a (length m.store.memory)) _ _)
