-- A turn of the reader: past a character it is in the definition's next state, and has the same answer left.
use Rattle.std.proofs.Common.{◌≡◌, ℕ, ◌+◌, ◌-◌, ◌<◌, ◌≤◌, ◌⊎◌, Bool, true, false, cond, eqb, List, [], ◌∷◌, length, get_or, take, drop, sym, refl, ap, ◌∙◌, subst, inl, inr, ⊎_elim, arith, add-zero, length-drop, get_or-drop, get_or-take, ne_eqb, drop_of_length-le}
use Rattle.std.proofs.Math.Option.{some, none}
use Rattle.std.proofs.lemmas.Bool.{cases_lt}
use Rattle.std.proofs.lemmas.Str.{encode_ascii}
use Rattle.base.proofs.Parts.{to_the_end}
use Rattle.utf8.specs.Utf8.{Front, nothing, ill_formed, scalar, front, Chars, chars_at, ill_formed_at}
use Rattle.utf8.specs.WhiteSpace.{white}
use Rattle.utf8.proofs.Fronts.{front-one}
use Rattle.utf8.proofs.Offsets.{Fits, front_fits, then_from, chars-from, chars-end, chars-char}
use Rattle.utf8.proofs.Encoded.{spelt}
use Rattle.tokens.specs.Tokens.{Token, State, initial, comment, token, next, ended, ended_by, tokens_from, tokens_at}
use Rattle.reader.specs.declared.chars.Char as answer
use Rattle.reader.specs.declared.chars.Char.TheVariants.{Missing, White, Other}
use Rattle.reader.specs.declared.scan.State as code
use Rattle.reader.specs.declared.scan.State.TheVariants.{Initial, Comment, Token as Held}
use Rattle.reader.specs.declared.scan.Next.{Next}
use Rattle.reader.specs.declared.scan.Next.TheVariants.{Token as Found, IllFormed, End}
use Rattle.reader.specs.Chars.{char_of}
use Rattle.reader.specs.Next.{width_of, next_of, next_at}
use Rattle.reader.specs.Private.{state_of, Moved, stopped}

-- ---- what `first_char` tells of the bytes from an offset on
abbrev CharIs : Front → answer.Char → Type 0
CharIs f Missing = (f ≡ nothing) ⊎ (f ≡ ill_formed)
CharIs f (White w) = (v : ℕ) × (f ≡ scalar v w) × (white v ≡ true)
CharIs f (Other w) = (v : ℕ) × (f ≡ scalar v w) × (white v ≡ false)

char_is : (f : Front) → CharIs f (char_of f)
unfolding char_of
char_is nothing = inl refl
char_is ill_formed = inr refl
char_is (scalar v w) = go (white v) refl
  where
    go : (t : Bool) → white v ≡ t → CharIs (scalar v w) (cond t (White w) (Other w))
    go true e = (v, refl, e)
    go false e = (v, refl, e)

module _ (text : List ℕ) (at : ℕ) where
  abbrev pub Told : answer.Char → Type 0
  Told c = c ≡ char_of (front (take (length text - at) (drop at text)))

  pub told : {c : answer.Char} → Told c → CharIs (front (drop at text)) c
  told e =
      subst (CharIs (front (drop at text))) (sym (e ∙ ap (λ (l : List ℕ). char_of (front l)) (to_the_end at text))) (char_is (front (drop at text)))

  fits : {v w : ℕ} → front (drop at text) ≡ scalar v w → (1 ≤ w) × (at + w ≤ length text)
  fits e = let f = subst (Fits (drop at text)) e (front_fits (drop at text)) in omega (arith, f.0, f.1, length-drop at text)

  pub white_fits : {w : ℕ} → Told (White w) → (1 ≤ w) × (at + w ≤ length text)
  white_fits e = fits (told e).1

  pub other_fits : {w : ℕ} → Told (Other w) → (1 ≤ w) × (at + w ≤ length text)
  other_fits e = fits (told e).1

  not_nothing : at < length text → front (drop at text) ≡ nothing → ⊥
  not_nothing h e = omega (arith, length-drop at text, subst (Fits (drop at text)) e (front_fits (drop at text)))

-- a value below 0x80 is its first byte
abbrev value_of : Front → ℕ
value_of nothing = 0
value_of ill_formed = 0
value_of (scalar v w) = v

byte_is : (bytes : List ℕ) {v w : ℕ} → get_or bytes 0 0 < 256 → front bytes ≡ scalar v w → 1 ≤ w → (c : ℕ) → c < 0x80 → eqb v c ≡ eqb (get_or bytes 0 0) c
byte_is [] h e l c k = absurd (omega (arith, (subst (Fits []) e (front_fits [])).1))
byte_is (b ∷ rest) {v} {w} h e l c k =
    ⊎_elim (λ (low : b < 0x80). let i : v ≡ b = ap value_of (sym e ∙ front-one b rest low) in rw i) (λ (high : 0x80 ≤ b).
    ⊎_elim (λ (low : v < 0x80).
    let i : b ≡ v = sym (get_or-take w (b ∷ rest) 0 0 (omega arith)) ∙ ap (λ (l : List ℕ). get_or l 0 0) ((spelt (b ∷ rest) h e).1 ∙ encode_ascii v low) in
    absurd (omega arith)) (λ (wide : 0x80 ≤ v). rw (ne_eqb v c (omega arith), ne_eqb b c (omega arith))) (cases_lt v 0x80)) (cases_lt b 0x80)

-- ---- what the characters from an offset on answer, in a state: what was asked
abbrev answered : (text : List ℕ) → code.State → Chars → Next
answered text s cs = next_of text (tokens_from (state_of s) cs) (ill_formed_at cs)

pub record Left (text : List ℕ) (from : ℕ) (s : code.State) (at : ℕ) : Type 0 where
  pub same : answered text s (chars_at text at) ≡ next_at text from

pub left_first : (text : List ℕ) (from : ℕ) → Left text from Initial from
unfolding tokens_at
left_first text from = record { same = refl }

none_ended : (s : State) (at v : ℕ) (later : List Token) → white v ≡ false → ended s at v later ≡ later
none_ended initial at v later e = refl
none_ended comment at v later e = refl
none_ended (token start) at v later e = rw e

module _ {text : List ℕ} {from at : ℕ} {s : code.State} (l : Left text from s at) where
  moved : {s' : code.State} {v w : ℕ} → front (drop at text) ≡ scalar v w
      → ((later : List Token) → ended (state_of s) at v later ≡ later) → state_of s' ≡ next (state_of s) at v → Left text from s' (at + w)
  unfolding tokens_from ill_formed_at
  moved {s'} {v} {w} e stays m =
      record {
        same =
            ap (λ (t : State). next_of text (tokens_from t (chars_at text (at + w))) (ill_formed_at (chars_at text (at + w)))) m
            ∙ ap (λ (ts : List Token). next_of text ts (ill_formed_at (chars_at text (at + w)))) (sym (stays (tokens_from (next (state_of s) at v) (chars_at text (at + w)))))
            ∙ ap (answered text s) (sym (chars-char text at v w e))
            ∙ l.same;
      }

  stopped_ill : front (drop at text) ≡ ill_formed → stopped s at (IllFormed at) ≡ next_at text from
  unfolding tokens_from ill_formed_at chars_at next_of width_of
  stopped_ill e =
      by_state s ∙ ap (answered text s) (sym (chars-from at (drop at text) ∙ ap (then_from at (drop at text)) e)) ∙ l.same
    where
      by_state : (s : code.State) → stopped s at (IllFormed at) ≡ next_of text (ended_by (state_of s) at) (some at)
      by_state Initial = refl
      by_state Comment = refl
      by_state (Held start) = rw (e, add-zero at)

  pub stopped_end : length text ≤ at → stopped s at End ≡ next_at text from
  unfolding tokens_from ill_formed_at next_of width_of front
  stopped_end h = by_state s ∙ ap (answered text s) (sym (chars-end text at h)) ∙ l.same
    where
      by_state : (s : code.State) → stopped s at End ≡ next_of text (ended_by (state_of s) at) none
      by_state Initial = refl
      by_state Comment = refl
      by_state (Held start) = rw (drop_of_length-le text h, add-zero at)

  pub stopped_missing : at < length text → Told text at Missing → stopped s at (IllFormed at) ≡ next_at text from
  stopped_missing h e = ⊎_elim (λ (q : front (drop at text) ≡ nothing). absurd (not_nothing text at h q)) stopped_ill (told text at e)

  pub ended_white : {start w : ℕ} → s ≡ Held start → Told text at (White w) → Found start at (at + w) ≡ next_at text from
  unfolding tokens_from ill_formed_at next_of width_of
  ended_white {start} {w} is e =
      let c = told text at e in
      sym (ap (answered text s) (chars-char text at c.0 w c.1) ∙ rw (is, c.2, c.1)) ∙ l.same

  module _ (small : (k : ℕ) → get_or text k 0 < 256) where
    turned : {v w : ℕ} {b : Bool} (t : code.State) → front (drop at text) ≡ scalar v w → white v ≡ b → Moved s at (get_or text at 0) b t → state_of t ≡ next (state_of s) at v
    turned {v} {w} t e is m = m v (sym is) (byte 0x23 (omega arith)) (byte 0x0A (omega arith))
      where
        byte : (c : ℕ) → c < 0x80 → eqb v c ≡ eqb (get_or text at 0) c
        byte c h =
            let first : get_or (drop at text) 0 0 ≡ get_or text at 0 = get_or-drop at text 0 0 ∙ ap (λ (k : ℕ). get_or text k 0) (add-zero at) in
            rw first at (byte_is (drop at text) (omega (arith, first, small at)) e (fits text at e).0 c h)

    pub left_other : {t : code.State} {w : ℕ} → Told text at (Other w) → Moved s at (get_or text at 0) false t → Left text from t (at + w)
    left_other {t} e m =
        let c = told text at e in
        moved c.1 (λ (later : List Token). none_ended (state_of s) at c.0 later c.2) (turned t c.1 c.2 m)

    pub left_white : {t : code.State} {w : ℕ} → ((start : ℕ) → s ≡ Held start → ⊥) → Told text at (White w) → Moved s at (get_or text at 0) true t → Left text from t (at + w)
    left_white {t} apart e m =
        let c = told text at e in
        moved c.1 (λ (later : List Token). in_none s apart c.0 later) (turned t c.1 c.2 m)
      where
        in_none : (s : code.State) → ((start : ℕ) → s ≡ Held start → ⊥) → (v : ℕ) (later : List Token) → ended (state_of s) at v later ≡ later
        in_none Initial apart v later = refl
        in_none Comment apart v later = refl
        in_none (Held start) apart v later = absurd (apart start refl)
