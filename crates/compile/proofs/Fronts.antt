-- What a text's front says of all of it: an ill-formed sequence that starts four bytes before the front's end, or earlier, is the text's first.
use Rattle.std.proofs.Common.{◌≡◌, ℕ, zero, suc, max, ◌+◌, ◌-◌, ◌*◌, ◌%◌, ◌<◌, ◌≤◌, ◌⊎◌, inl, inr, Bool, true, false, cond, List, [], ◌∷◌, ◌++◌, length, take, drop, refl, subst, arith, length-take-le}
use Rattle.std.proofs.Math.Option.{some, none-ne-some}
use Rattle.std.proofs.lemmas.List.{take-append-drop}
use Rattle.base.specs.Ranges.{within}
use Rattle.utf8.specs.Utf8.{Row, well_formed, Front, nothing, ill_formed, scalar, follow, led, front, chars_by, chars_from, chars, ill_formed_at}

-- bytes are read alike with and without what comes after them, or break off before all of `more` that are to follow
module _ (after : List ℕ) where
  abbrev Alike : (more : ℕ) (bytes : List ℕ) (alone whole : Front) → Type 0
  Alike more bytes alone whole = (whole ≡ alone) ⊎ ((alone ≡ ill_formed) × (length bytes < more))

  follow-on : (bytes : List ℕ) (width more low high value : ℕ)
      → Alike more bytes (follow width more low high value bytes) (follow width more low high value (bytes ++ after))
  unfolding follow
  follow-on bytes width zero low high value = inl refl
  follow-on [] width (suc more) low high value = inr (refl, omega arith)
  follow-on (b ∷ bytes) width (suc more) low high value = go (within low high b) (follow-on bytes (suc width) more 0x80 0xBF (value * 64 + b % 64))
    where
      go : (t : Bool) {alone whole : Front} → Alike more bytes alone whole → Alike (suc more) (b ∷ bytes) (cond t alone ill_formed) (cond t whole ill_formed)
      go false a = inl refl
      go true (inl e) = inl e
      go true (inr p) = inr (p.0, omega arith)

  -- the most bytes that rows let follow
  abbrev most : List Row → ℕ
  most [] = 0
  most (r ∷ rows) = max r.more (most rows)

  led-on : (b : ℕ) (bytes : List ℕ) (rows : List Row) → Alike (most rows) bytes (led b bytes rows) (led b (bytes ++ after) rows)
  unfolding led
  led-on b bytes [] = inl refl
  led-on b bytes (r ∷ rows) = go (within r.low r.high b) (follow-on bytes 1 r.more r.next_low r.next_high (b - r.mark)) (led-on b bytes rows)
    where
      go : (t : Bool) {alone whole alone' whole' : Front} → Alike r.more bytes alone whole → Alike (most rows) bytes alone' whole'
          → Alike (max r.more (most rows)) bytes (cond t alone alone') (cond t whole whole')
      go true (inl e) a = inl e
      go true (inr p) a = inr (p.0, omega arith)
      go false a (inl e) = inl e
      go false a (inr p) = inr (p.0, omega arith)

  front-on : (b : ℕ) (bytes : List ℕ) → Alike 3 bytes (front (b ∷ bytes)) (front (b ∷ (bytes ++ after)))
  unfolding front well_formed
  front-on b bytes = led-on b bytes well_formed

  -- the first ill-formed sequence starts at k
  abbrev IllAt : (k at skip : ℕ) (bytes : List ℕ) → Type 0
  IllAt k at skip bytes = ill_formed_at (chars_from at skip bytes) ≡ some k

  chars-on : (k : ℕ) (bytes : List ℕ) (at skip : ℕ) → IllAt k at skip bytes → k + 4 ≤ at + length bytes → IllAt k at skip (bytes ++ after)
  unfolding chars_from ill_formed_at
  chars-on k [] at skip e h = absurd (none-ne-some _ e)
  chars-on k (b ∷ bytes) at (suc skip) e h = chars-on k bytes (at + 1) skip e (omega arith)
  chars-on k (b ∷ bytes) at zero e h =
      go (front (b ∷ bytes)) (front-on b bytes) (λ (skip : ℕ) (e : IllAt k (at + 1) skip bytes). chars-on k bytes (at + 1) skip e (omega arith)) e
    where
      go : (alone : Front) {whole : Front} → Alike 3 bytes alone whole
          → ((skip : ℕ) → IllAt k (at + 1) skip bytes → IllAt k (at + 1) skip (bytes ++ after))
          → ill_formed_at (chars_by at alone (λ skip. chars_from (at + 1) skip bytes)) ≡ some k
          → ill_formed_at (chars_by at whole (λ skip. chars_from (at + 1) skip (bytes ++ after))) ≡ some k
      go nothing a on e = absurd (none-ne-some _ e)
      go ill_formed (inl s) on e = rw s e
      go ill_formed (inr p) on e = let here : at ≡ k = cc in absurd (omega arith)
      go (scalar v w) (inl s) on e = rw s (on _ e)
      go (scalar v w) (inr p) on e = cc

pub ill_formed_in_front : (front : ℕ) (bytes : List ℕ) {k : ℕ} → front ≤ length bytes → ill_formed_at (chars (take front bytes)) ≡ some k → k + 4 ≤ front
    → ill_formed_at (chars bytes) ≡ some k
unfolding chars
ill_formed_in_front front bytes {k} short e h =
    subst (λ (l : List ℕ). ill_formed_at (chars l) ≡ some k) (take-append-drop front bytes)
    (chars-on (drop front bytes) k (take front bytes) 0 0 e (omega (arith, length-take-le front bytes short)))
