-- What std calls UTF-8 is what the definition calls well-formed, and it stops being so at the same offset.
use Rattle.std.proofs.Common.{◌≡◌, ℕ, ◌+◌, ◌<◌, true, List, [], ◌∷◌, ◌++◌, length, take, drop, get_or, refl, sym, ap, ◌∙◌, subst, arith, add-zero, zero-add, length-drop, length-append, length-take-le, get_or-drop}
use Rattle.std.proofs.lemmas.Bool.{and_parts}
use mathlib.Core.Option.{none, some}
use Rattle.std.specs.Str.{IsUtf8, IsValidUpTo}
use Rattle.std.specs.Char.{len_utf8}
use Rattle.std.proofs.lemmas.Str.{IsUtf8-append, IsUtf8-encode, length-encode}
use Rattle.std.proofs.lemmas.List.{append-nil, append_assoc, take-append-drop}
use Rattle.std.proofs.Math.Seq.{drop-append_seam, take-add}
use lib.Utf8.{scalar, scalars, encode, encodes}
use Rattle.utf8.specs.Utf8 as utf8
use Rattle.utf8.specs.Utf8.{Front, nothing, ill_formed, front, chars_from, chars, ill_formed_at}
use Rattle.utf8.proofs.Offsets.{Fits, front_fits, then_from, chars-from}
use Rattle.utf8.proofs.Encoded.{front-encode, spelt}

-- past the bytes of characters nothing was ill-formed
past-text : (cs rest : List ℕ) (at : ℕ) → scalars cs ≡ true → ill_formed_at (chars_from at 0 (encodes cs ++ rest)) ≡ ill_formed_at (chars_from (at + length (encodes cs)) 0 rest)
unfolding ill_formed_at
past-text [] rest at s = rw (add-zero at)
past-text (c ∷ cs) rest at s =
    let p = and_parts (scalar c) (scalars cs) s in
    let split : encodes (c ∷ cs) ++ rest ≡ encode c ++ (encodes cs ++ rest) = append_assoc (encode c) (encodes cs) rest in
    let n : at + length (encode c) + length (encodes cs) ≡ at + length (encodes (c ∷ cs)) = rw (length-append (encode c) (encodes cs)) (omega arith) in
    ap (λ (l : List ℕ). ill_formed_at (chars_from at 0 l)) split
    ∙ past-char c (encodes cs ++ rest) at p.0
    ∙ past-text cs rest (at + length (encode c)) p.1
    ∙ ap (λ (k : ℕ). ill_formed_at (chars_from k 0 rest)) n
  where
    past-char : (c : ℕ) (rest : List ℕ) (at : ℕ) → scalar c ≡ true → ill_formed_at (chars_from at 0 (encode c ++ rest)) ≡ ill_formed_at (chars_from (at + length (encode c)) 0 rest)
    past-char c rest at s =
        ap ill_formed_at (chars-from at (encode c ++ rest) ∙ ap (then_from at (encode c ++ rest)) (front-encode c rest s))
        ∙ ap (λ (l : List ℕ). ill_formed_at (chars_from (at + length (encode c)) 0 l)) (drop-append_seam (encode c) rest)

pub text_is_well_formed : (bytes : List ℕ) → IsUtf8 bytes → ill_formed_at (chars bytes) ≡ none
unfolding chars chars_from ill_formed_at
text_is_well_formed bytes u =
    let e : bytes ≡ encodes u.0 ++ [] = sym u.1.1 ∙ sym (append-nil (encodes u.0)) in
    ap (λ (l : List ℕ). ill_formed_at (chars_from 0 0 l)) e ∙ past-text u.0 [] 0 u.1.0

pub ill_formed_past : (bytes : List ℕ) (n : ℕ) → ((k : ℕ) → get_or bytes k 0 < 256) → IsValidUpTo bytes n → ill_formed_at (chars bytes) ≡ some n
unfolding chars ill_formed_at
ill_formed_past bytes n small v =
    let u = v.front in
    let e : bytes ≡ encodes u.0 ++ drop n bytes = sym (take-append-drop n bytes) ∙ ap (λ (l : List ℕ). l ++ drop n bytes) (sym u.1.1) in
    let at : 0 + length (encodes u.0) ≡ n = zero-add (length (encodes u.0)) ∙ ap length u.1.1 ∙ length-take-le n bytes (omega (arith, v.short)) in
    ap (λ (l : List ℕ). ill_formed_at (chars_from 0 0 l)) e ∙ past-text u.0 (drop n bytes) 0 u.1.0
    ∙ ap (λ (k : ℕ). ill_formed_at (chars_from k 0 (drop n bytes))) at
    ∙ ap ill_formed_at (chars-from n (drop n bytes))
    ∙ broken (front (drop n bytes)) refl (front_fits (drop n bytes))
  where
    broken : (f : Front) → front (drop n bytes) ≡ f → Fits (drop n bytes) f → ill_formed_at (then_from n (drop n bytes) f) ≡ some n
    broken nothing e fits = absurd (omega (arith, fits, v.short, length-drop n bytes))
    broken ill_formed e fits = refl
    broken (utf8.scalar x w) e fits =
        let s : (scalar x ≡ true) × (take w (drop n bytes) ≡ encode x) = spelt (drop n bytes) (rw (get_or-drop n bytes 0 0) (small (n + 0))) e in
        let u : IsUtf8 (take (n + w) bytes) = subst IsUtf8 (ap (λ (l : List ℕ). take n bytes ++ l) (sym s.1) ∙ sym (take-add n w bytes)) (IsUtf8-append (take n bytes) (encode x) v.front (IsUtf8-encode x s.0)) in
        absurd (v.longest (n + w) (omega (arith, fits)) u)

-- what stands at the front of bytes that begin with a character's
pub front_char : {bytes : List ℕ} (rest : List ℕ) {c : ℕ} → scalar c ≡ true → bytes ≡ encode c ++ rest → front bytes ≡ utf8.scalar c (len_utf8 c)
front_char rest {c} s e = ap front e ∙ front-encode c rest s ∙ ap (utf8.scalar c) (length-encode c)
