-- A reference is resolved by one pass over the labels: those passed are whole and have other names, so what is left decides.
use Rattle.std.proofs.Common.{◌≡◌, ℕ, ◌+◌, ◌-◌, ◌/◌, ◌≤◌, ◌<◌, ◌≢◌, Bool, true, false, cond, List, [], ◌∷◌, length, take, nat_eq, drop, refl, subst, add-one}
use Rattle.std.proofs.lemmas.Bool.{eq-eqb}
use Rattle.std.specs.Prelude.{eqb}
use Rattle.std.specs.Cmp.Lexicographic.{same_text, other_text}
use lib.Pointwise.{pointwise}
use Rattle.base.proofs.Parts.{between}
use Rattle.names.specs.Names.{same_bytes}
use Rattle.names.proofs.Same.{same-equal}
use Rattle.stack_assembly.specs.Script.{Label, part, damaged_label, label_in, label_capacity}
use Rattle.stack_assembly.specs.Step.{Fetched, resolved, damaged, pushes, unresolved}
use Rattle.records.specs.declared.label.LabelRecord.{LabelRecord}
use Rattle.records.specs.Records.{label_of, label_at}
use Rattle.records.proofs.InTable.{no_more, next-label}
use Rattle.script.specs.Private.{labels_said}

-- ---- one name

eqb-same : (a : ℕ) → eqb a a ≡ true
eqb-same a = eq-eqb a a refl

same_self : (a : List ℕ) → same_bytes a a ≡ true
unfolding same_bytes
same_self [] = refl
same_self (x ∷ a) = rw (eqb-same x, same_self a)

other : (a b : List ℕ) → a ≢ b → same_bytes a b ≡ false
other a b n = by_test (same_bytes a b) refl
  where
    by_test : (t : Bool) → same_bytes a b ≡ t → t ≡ false
    by_test true e = absurd (n (same-equal a b e))
    by_test false e = refl

-- ---- the labels in order

module _ (text labels name : List ℕ) where
  abbrev pub left : (i : ℕ) → Fetched
  left i = resolved text name i (drop i (labels_said labels))

  module _ (i : ℕ) where
    pub none_left : length labels / 3 ≤ i → left i ≡ unresolved
    unfolding resolved labels_said
    none_left h = rw (no_more 3 label_in (label_capacity labels) labels i h)

    here : (l : Label) → i < length labels / 3 → label_at i labels ≡ l
        → left i ≡ cond (damaged_label text l) (damaged i) (cond (same_bytes (part text l.start l.end) name) (pushes l.operator) (left (i + 1)))
    unfolding resolved labels_said
    here l there is = rw (next-label (label_capacity labels) i labels there, ← is, add-one i)

    module _ (there : i < length labels / 3) where
      pub damaged_here : damaged_label text (label_at i labels) ≡ true → left i ≡ damaged i
      damaged_here t = rw (here (label_at i labels) there refl, t)

      module _ (r : LabelRecord) (is : label_at i labels ≡ label_of r) (whole : damaged_label text (label_at i labels) ≡ false) where
        whole_here : left i ≡ cond (same_bytes (take (r.end - r.start) (drop r.start text)) name) (pushes r.operator) (left (i + 1))
        whole_here = let P : Label → Type 0 = λ l. damaged_label text l ≡ false in rw (between r.start r.end text, here (label_of r) there is, subst P is whole)

        pub named_here : true ≡ pointwise nat_eq (take (r.end - r.start) (drop r.start text)) name → left i ≡ pushes r.operator
        named_here e = rw (whole_here, same_text (take (r.end - r.start) (drop r.start text)) name e, same_self name)

        pub not_here : false ≡ pointwise nat_eq (take (r.end - r.start) (drop r.start text)) name → left i ≡ left (i + 1)
        not_here e = rw (whole_here, other (take (r.end - r.start) (drop r.start text)) name (other_text (take (r.end - r.start) (drop r.start text)) name e))
