-- What compile answers, and both tables after it, by the tests that lead there.
use Prim.Native.Nat.{ℕ, ◌*◌, ◌/◌, ◌≤◌, ◌<◌}
use mathlib.Core.List.{List, ◌++◌, flat_map}
use mathlib.Core.Option.{none, some}
use mathlib.Core.Path.{◌≡◌, refl, ◌∙◌}
use native.Mathlib.Omega.{arith}
use borrow.Author.Tests.{lt-ltb, le-ltb}
use lib.ListN.{length, take, drop}
use Rattle.utf8.specs.Utf8.{chars, ill_formed_at}
use Rattle.stack_assembly.specs.Script.{CompileAnswer, script_of, operator_capacity, label_capacity, operator_words, label_words, operator_table, label_table, operator_in, label_in, CompileError, IllFormed, TooLong, TooManyOperators, TooManyLabels, rejected, accepted, longest, fitted, checked, compile_answer, compile}
use Rattle.stack_assembly.specs.Promise.{Compiles}
use Rattle.stack_assembly.proofs.Records.{words-length}
use Rattle.records.specs.declared.counts.Counts.{Counts}
use Rattle.compile.specs.Private.{Passes, HasRoom}
use Rattle.compile.proofs.Tables.{puts-all, puts-copied}

module _ (text operators labels : List ℕ) where
  abbrev answered : CompileAnswer
  answered = compile_answer text (operator_capacity operators) (label_capacity labels)

  abbrev Refuses : CompileError → Type 0
  Refuses e = Compiles text operators labels (record { answer = rejected e; operators = operators; labels = labels })

  refused : (e : CompileError) → answered ≡ rejected e → Refuses e
  unfolding compile
  refused (IllFormed offset) e = rw e
  refused TooLong e = rw e
  refused (TooManyOperators n) e = rw e
  refused (TooManyLabels n) e = rw e

  pub too_long : longest < length text → Refuses TooLong
  unfolding compile_answer
  too_long h = refused TooLong (rw (lt-ltb longest (length text) h))

  module _ (short : length text ≤ longest) where
    not_long : answered ≡ checked (ill_formed_at (chars text)) (fitted (operator_capacity operators) (label_capacity labels) (length (script_of text).operators) (length (script_of text).labels))
    unfolding compile_answer
    not_long = rw (le-ltb longest (length text) short)

    operator-words : length (flat_map operator_words (script_of text).operators) ≡ length (script_of text).operators * 4
    operator-words = words-length 4 operator_words operator_in (λ _. refl) (λ _. refl) (script_of text).operators

    label-words : length (flat_map label_words (script_of text).labels) ≡ length (script_of text).labels * 3
    label-words = words-length 3 label_words label_in (λ _. refl) (λ _. refl) (script_of text).labels

    pub ill-formed : {at : ℕ} → ill_formed_at (chars text) ≡ some at → Refuses (IllFormed at)
    ill-formed {at} e = refused (IllFormed at) (not_long ∙ rw e)

    module _ (well_formed : ill_formed_at (chars text) ≡ none) where
      filled : HasRoom text operators labels → {n m : ℕ} {operators' labels' : List ℕ} → n ≡ length (script_of text).operators → m ≡ length (script_of text).labels
          → operators' ≡ operator_table (script_of text).operators ++ drop (length (operator_table (script_of text).operators)) operators
          → labels' ≡ label_table (script_of text).labels ++ drop (length (label_table (script_of text).labels)) labels
          → Compiles text operators labels (record { answer = accepted n m; operators = operators'; labels = labels' })
      unfolding compile
      filled a {n} {m} x y os ls =
          let e : answered ≡ accepted n m =
          not_long ∙ rw (well_formed, ← x, ← y, le-ltb (length operators / 4) n (omega (arith, x, a.operators_fit)), le-ltb (length labels / 3) m (omega (arith, y, a.labels_fit)))
          in
          rw (e, os, ls)

      -- a pass that writes
      pub written : HasRoom text operators labels → {c : Counts} {operators' labels' : List ℕ} → Passes text operators labels c operators' labels'
          → Compiles text operators labels (record { answer = accepted c.operators c.labels; operators = operators'; labels = labels' })
      written a p =
          filled a p.operator_count p.label_count
          (p.operator_table ∙ puts-all operator_words 4 (omega arith) (λ _. refl) (script_of text).operators operators (omega (arith, a.operators_fit, operator-words)))
          (p.label_table ∙ puts-all label_words 3 (omega arith) (λ _. refl) (script_of text).labels labels (omega (arith, a.labels_fit, label-words)))

      -- a pass that writes to other tables
      module _ {own₁ own₂ own₁' own₂' : List ℕ} {c : Counts} (p : Passes text own₁ own₂ c own₁' own₂') where
        counted : answered ≡ fitted (operator_capacity operators) (label_capacity labels) c.operators c.labels
        counted = not_long ∙ rw (well_formed, ← p.operator_count, ← p.label_count)

        pub too_many_operators : length operators / 4 < c.operators → Refuses (TooManyOperators c.operators)
        too_many_operators h = refused (TooManyOperators c.operators) (counted ∙ rw (lt-ltb (length operators / 4) c.operators h))

        module _ (operators-fit : c.operators ≤ length operators / 4) where
          pub too_many_labels : length labels / 3 < c.labels → Refuses (TooManyLabels c.labels)
          too_many_labels h = refused (TooManyLabels c.labels) (counted ∙ rw (le-ltb (length operators / 4) c.operators operators-fit, lt-ltb (length labels / 3) c.labels h))

          module _ (labels-fit : c.labels ≤ length labels / 3) where
            pub has_room : HasRoom text operators labels
            has_room = record { operators_fit = rw (← p.operator_count) operators-fit; labels_fit = rw (← p.label_count) labels-fit }

            pub copied : c.operators * 4 ≤ length own₁' → c.labels * 3 ≤ length own₂' → {operators' labels' : List ℕ}
                → operators' ≡ take (c.operators * 4) own₁' ++ drop (length (take (c.operators * 4) own₁')) operators
                → labels' ≡ take (c.labels * 3) own₂' ++ drop (length (take (c.labels * 3) own₂')) labels
                → Compiles text operators labels (record { answer = accepted c.operators c.labels; operators = operators'; labels = labels' })
            copied h k os ls =
                filled has_room p.operator_count p.label_count
                (os ∙ puts-copied operator_words 4 (omega arith) (λ _. refl) (script_of text).operators own₁ operators (omega (arith, p.operator_count, operator-words)) h (omega arith) p.operator_table)
                (ls ∙ puts-copied label_words 3 (omega arith) (λ _. refl) (script_of text).labels own₂ labels (omega (arith, p.label_count, label-words)) k (omega arith) p.label_table)
