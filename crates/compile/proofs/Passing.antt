-- One pass over the tokens: each turn adds a token's record, and what the tokens left would add completes it.
use Prim.Native.Nat.{ℕ, ◌+◌, ◌-◌, ◌/◌, ◌≤◌, ◌<◌}
use mathlib.Core.Bool.{Bool, true, false, cond}
use mathlib.Core.List.{List, [], ◌∷◌, map}
use mathlib.Core.Option.{Option, none, some}
use mathlib.Core.Path.{◌≡◌, refl, sym, ap, ◌∙◌}
use Rattle.std.specs.Prelude.{Some, None}
use Rattle.std.proofs.lemmas.Option.{none-some, cond_some}
use native.Mathlib.Omega.{arith}
use lib.ListN.{length, take, drop}
use lib.Seq.{slice}
use Rattle.base.proofs.Parts.{between}
use Rattle.tokens.specs.Tokens.{Token, tokens}
use Rattle.tokens.proofs.Bounds.{Inside, inside, few}
use Rattle.kinds.specs.Numbers.{or_else, i32_or_u32}
use Rattle.kinds.specs.Kinds.{Kind, label, reference, integer, identifier, ends_in_colon, begins_with_at, hexadecimal, integer_or, kind_of}
use Rattle.kinds.specs.Answers.{kind_answer}
use Rattle.stack_assembly.specs.Script.{Operator, Label, operator, operator_then, label_then, operators_of, labels_of, script_of, operator_words, label_words}
use Rattle.compile.specs.Private.{words_by, record_of, put, puts, Passes}
use Rattle.compile.proofs.Tables.{put-length, put_past}

-- Of a text whose tokens are left from one on, n operators and m labels are counted, and those that fit are written.
pub record Passing (text operators₀ labels₀ operators labels : List ℕ) (left : List Token) (n m : ℕ) : Type 0 where
  pub few : n + m + length left ≡ length (tokens text)
  pub inside : Inside (length text) left
  pub operator_room : length operators ≡ length operators₀
  pub label_room : length labels ≡ length labels₀
  pub operator_count : n + length (operators_of text left) ≡ length (script_of text).operators
  pub label_count : m + length (labels_of text n left) ≡ length (script_of text).labels
  pub operator_table : puts 4 operators n (map operator_words (operators_of text left)) ≡ puts 4 operators₀ 0 (map operator_words (script_of text).operators)
  pub label_table : puts 3 labels m (map label_words (labels_of text n left)) ≡ puts 3 labels₀ 0 (map label_words (script_of text).labels)

pub passing_starts : (text operators labels : List ℕ) {left : List Token} → left ≡ tokens text → Passing text operators labels operators labels left 0 0
unfolding script_of
passing_starts text operators labels e =
    rw e
    (record {
      few = omega arith;
      inside = inside text;
      operator_room = refl;
      label_room = refl;
      operator_count = omega arith;
      label_count = omega arith;
      operator_table = refl;
      label_table = refl;
    })

-- a text that is not too long has few tokens
pub counted-small : {text operators₀ labels₀ operators labels : List ℕ} {left : List Token} {n m : ℕ} → length text ≤ 65535
    → Passing text operators₀ labels₀ operators labels left n m → (n ≤ 32768) × (m ≤ 32768)
counted-small {text} h v = omega (arith, v.few, few text)

-- ---- the next token, and the records that are left with it
-- a token of this kind is an operator, of these words
record Is (k : Kind) (t : Token) (words : List ℕ) : Type 0 where
  operator : Operator
  holds : operator_words operator ≡ words
  stands : (later : List Operator) → operator_then k t later ≡ operator ∷ later
  no_label : (n : ℕ) (later : ℕ → List Label) → label_then k t n later ≡ later (n + 1)

is-some : (k : Kind) (t : Token) {words : List ℕ} → words_by (kind_answer k) t.start t.end ≡ Some words → Is k t words
is-some label t e = absurd (none-some _ e)
is-some reference t e = record { operator = operator 2 t.start t.end 0; holds = (cond_some true _ _ e).1; stands = λ _. refl; no_label = λ _ _. refl }
is-some (integer bits) t e = record { operator = operator 1 t.start t.end bits; holds = (cond_some true _ _ e).1; stands = λ _. refl; no_label = λ _ _. refl }
is-some identifier t e = record { operator = operator 0 t.start t.end 0; holds = (cond_some true _ _ e).1; stands = λ _. refl; no_label = λ _ _. refl }

is-none : (k : Kind) (t : Token) → words_by (kind_answer k) t.start t.end ≡ None → k ≡ label
is-none label t e = refl
is-none reference t e = absurd (none-some _ (sym e))
is-none (integer bits) t e = absurd (none-some _ (sym e))
is-none identifier t e = absurd (none-some _ (sym e))

no_colon : (bytes : List ℕ) (t : Token) → ends_in_colon bytes ≡ false → (words : List ℕ) × (words_by (kind_answer (kind_of bytes)) t.start t.end ≡ Some words)
unfolding kind_of
no_colon bytes t e = rw e (go (begins_with_at bytes) (or_else (hexadecimal bytes) (i32_or_u32 10 bytes)))
  where
    go : (at : Bool) (number : Option ℕ) → (words : List ℕ) × (words_by (kind_answer (cond at reference (integer_or number))) t.start t.end ≡ Some words)
    go true number = (_, refl)
    go false none = (_, refl)
    go false (some n) = (_, refl)

module _ (text : List ℕ) {t : Token} {later left : List Token} (next : left ≡ t ∷ later) where
  -- where it stands
  module _ {operators₀ labels₀ operators labels : List ℕ} {n m : ℕ} (v : Passing text operators₀ labels₀ operators labels left n m) where
    here : Inside (length text) (t ∷ later)
    here = rw next at v.inside

    pub token_some : t.start < t.end
    token_some = here.0

    pub token_inside : t.end ≤ length text
    token_inside = here.1

  -- its bytes, as the code has them
  abbrev name : List ℕ
  name = take (t.end - t.start) (drop t.start text)

  pub by_colon : ends_in_colon name ≡ true → record_of name t.start t.end ≡ None
  unfolding kind_of
  by_colon e = rw e

  module _ (none : record_of name t.start t.end ≡ None) where
    is_label : kind_of (slice t.start t.end text) ≡ label
    is_label = rw (← between t.start t.end text) (is-none (kind_of name) t none)

    label-operators : operators_of text left ≡ operators_of text later
    unfolding operators_of
    label-operators = ap (operators_of text) next ∙ rw is_label

    label-labels : (n : ℕ) → labels_of text n left ≡ record { start = t.start; end = t.end - 1; operator = n } ∷ labels_of text n later
    unfolding labels_of
    label-labels n = ap (labels_of text n) next ∙ rw is_label

    module _ {operators₀ labels₀ operators labels labels' : List ℕ} {n m : ℕ} (v : Passing text operators₀ labels₀ operators labels left n m) where
      pub passing_label : labels' ≡ put 3 labels m (t.start ∷ (t.end - 1) ∷ n ∷ []) → Passing text operators₀ labels₀ operators labels' later n (m + 1)
      unfolding puts
      passing_label e =
          record {
            few = omega (arith, v.few, ap length next);
            inside = (here v).2;
            operator_room = v.operator_room;
            label_room = ap length e ∙ put-length 3 m labels (t.start ∷ (t.end - 1) ∷ n ∷ []) ∙ v.label_room;
            operator_count = rw label-operators at v.operator_count;
            label_count = omega (arith, ap length (label-labels n), v.label_count);
            operator_table = rw label-operators at v.operator_table;
            label_table = rw e (rw (label-labels n) at v.label_table);
          }

  module _ {words : List ℕ} (some : record_of name t.start t.end ≡ Some words) where
    is : Is (kind_of (slice t.start t.end text)) t words
    is = rw (← between t.start t.end text) (is-some (kind_of name) t some)

    other-operators : operators_of text left ≡ is.operator ∷ operators_of text later
    unfolding operators_of
    other-operators = ap (operators_of text) next ∙ is.stands _

    other-labels : (n : ℕ) → labels_of text n left ≡ labels_of text (n + 1) later
    unfolding labels_of
    other-labels n = ap (labels_of text n) next ∙ is.no_label n _

    module _ {operators₀ labels₀ operators operators' labels : List ℕ} {n m : ℕ} (v : Passing text operators₀ labels₀ operators labels left n m) where
      pub passing_operator : operators' ≡ put 4 operators n words → Passing text operators₀ labels₀ operators' labels later (n + 1) m
      unfolding puts
      passing_operator e =
          record {
            few = omega (arith, v.few, ap length next);
            inside = (here v).2;
            operator_room = ap length e ∙ put-length 4 n operators words ∙ v.operator_room;
            label_room = v.label_room;
            operator_count = omega (arith, ap length other-operators, v.operator_count);
            label_count = rw (other-labels n) at v.label_count;
            operator_table = rw (e, ← is.holds) (rw other-operators at v.operator_table);
            label_table = rw (other-labels n) at v.label_table;
          }

  -- where no more is written
  module _ {operators₀ labels₀ operators labels : List ℕ} {n m : ℕ} (v : Passing text operators₀ labels₀ operators labels left n m) where
    pub passing_counted : ends_in_colon name ≡ false → length operators / 4 ≤ n → Passing text operators₀ labels₀ operators labels later (n + 1) m
    passing_counted e full = let some = no_colon name t e in passing_operator some.1 v (put_past 4 n operators some.0 full)

-- no token is left
module _ {text operators₀ labels₀ operators labels : List ℕ} {left : List Token} {n m : ℕ} (v : Passing text operators₀ labels₀ operators labels left n m) (none_left : left ≡ []) where
  pub passed : Passes text operators₀ labels₀ (record { operators = n; labels = m }) operators labels
  unfolding operators_of labels_of puts
  passed =
      let no-operators : operators_of text left ≡ [] = ap (operators_of text) none_left in
      let no-labels : labels_of text n left ≡ [] = ap (labels_of text n) none_left in
      record {
        operator_count = omega (arith, ap length no-operators, v.operator_count);
        label_count = omega (arith, ap length no-labels, v.label_count);
        operator_table = rw no-operators at v.operator_table;
        label_table = rw no-labels at v.label_table;
      }
