-- A text's records: one for each token, and so few.
use Prim.Native.Nat.{ℕ, ◌+◌, ◌/◌, ◌≤◌}
use mathlib.Core.List.{List, [], ◌∷◌}
use mathlib.Core.Path.{◌≡◌, refl}
use native.Mathlib.Omega.{arith}
use lib.ListN.{length}
use Rattle.tokens.specs.Tokens.{Token, bytes_of, tokens}
use Rattle.tokens.proofs.Bounds.{few}
use Rattle.kinds.specs.Kinds.{Kind, label, reference, integer, identifier, kind_of}
use Rattle.stack_assembly.specs.Script.{operator_then, label_then, operators_of, labels_of, script_of}
use Rattle.compile.specs.Private.{HasRoom}

module _ (text : List ℕ) where
  one_each : (ts : List Token) (n : ℕ) → length (operators_of text ts) + length (labels_of text n ts) ≡ length ts
  unfolding operators_of labels_of
  one_each [] n = refl
  one_each (t ∷ later) n = go (kind_of (bytes_of text t)) (λ (k : ℕ). one_each later k)
    where
      go : (k : Kind) → ((n : ℕ) → length (operators_of text later) + length (labels_of text n later) ≡ length later)
          → length (operator_then k t (operators_of text later)) + length (label_then k t n (λ next. labels_of text next later)) ≡ length (t ∷ later)
      go label on = omega (arith, on n)
      go reference on = omega (arith, on (n + 1))
      go (integer bits) on = omega (arith, on (n + 1))
      go identifier on = omega (arith, on (n + 1))

  few_records : length (script_of text).operators + length (script_of text).labels ≤ (length text + 1) / 2
  unfolding script_of
  few_records = omega (arith, one_each (tokens text) 0, few text)

  pub surely : (operators labels : List ℕ) {o l : ℕ} → o ≡ length operators / 4 → l ≡ length labels / 3 → (length text + 1) / 2 ≤ o → (length text + 1) / 2 ≤ l
      → HasRoom text operators labels
  surely operators labels x y o l = record { operators_fit = omega (arith, few_records); labels_fit = omega (arith, few_records) }
