-- Characters that their first bytes tell to be no white space.
use Rattle.std.proofs.Common.{◌≡◌, ◌≢◌, ℕ, ◌+◌, ◌/◌, ◌%◌, ◌<◌, ◌≤◌, true, false, List, ◌++◌, length, get_or, drop, sym, subst, ap, ◌∙◌, arith, get_or-drop, add-zero, le-ltb, lt-ltb, ⊎_elim}
use lib.Utf8.{encode}
use Rattle.std.proofs.lemmas.Bool.{cases_lt}
use Rattle.std.proofs.lemmas.Bool.Decides.{nat_tests}
use Rattle.std.specs.Char.{len_utf8}
use Rattle.std.specs.Str.{IsUtf8, IsCharBoundary}
use Rattle.std.proofs.lemmas.Str.{len_utf8_bounds, len_utf8_ascii}
use Rattle.utf8.specs.WhiteSpace.{white}
use Rattle.tokens.specs.Private.{IsPlain, Ink, Ends}
use Rattle.tokens.proofs.Scans.{plain-ink, some-char, byte-char, CharAt, Inside, inside_more, ends_white, no_hash-first}

ink-control : (c : ℕ) → c < 9 → white c ≡ false
unfolding white
ink-control c h = grind (arith, nat_tests)

ink-latin : (c : ℕ) → 0xA0 < c → c < 0x1680 → white c ≡ false
unfolding white
ink-latin c l h = grind (arith, nat_tests)

ink-far : (c : ℕ) → 0x3000 < c → white c ≡ false
unfolding white
ink-far c l = grind (arith, nat_tests)

-- a character is of one to four bytes
by_class : {P : Type 0} (c : ℕ) → (c < 128 → P) → (128 ≤ c → c < 2048 → P) → (2048 ≤ c → c < 65536 → P) → (65536 ≤ c → P) → P
by_class c one two three four =
    ⊎_elim one (λ (l : 128 ≤ c). ⊎_elim (two l) (λ (m : 2048 ≤ c). ⊎_elim (three m) four (cases_lt c 65536)) (cases_lt c 2048)) (cases_lt c 128)

module _ (c : ℕ) (rest : List ℕ) where
  one : c < 128 → get_or (encode c ++ rest) 0 0 ≡ c
  unfolding encode
  one h = rw (lt-ltb c 128 h)

  two : 128 ≤ c → c < 2048 → get_or (encode c ++ rest) 0 0 ≡ 192 + c / 64
  unfolding encode
  two l h = rw (le-ltb c 128 l, lt-ltb c 2048 h)

  three : 2048 ≤ c → c < 65536 → (get_or (encode c ++ rest) 0 0 ≡ 224 + c / 4096) × (get_or (encode c ++ rest) 1 0 ≡ 128 + c / 64 % 64)
  unfolding encode
  three l h = let m : 128 ≤ c = omega arith in (rw (le-ltb c 128 m, le-ltb c 2048 l, lt-ltb c 65536 h), rw (le-ltb c 128 m, le-ltb c 2048 l, lt-ltb c 65536 h))

  four : 65536 ≤ c → get_or (encode c ++ rest) 0 0 ≡ 240 + c / 262144
  unfolding encode
  four l = let m : 128 ≤ c = omega arith in let n : 2048 ≤ c = omega arith in rw (le-ltb c 128 m, le-ltb c 2048 n, le-ltb c 65536 l)

  two_wide : 128 ≤ c → c < 2048 → len_utf8 c ≡ 2
  two_wide l h = rw (le-ltb c 128 l, lt-ltb c 2048 h)

  three_wide : 2048 ≤ c → c < 65536 → len_utf8 c ≡ 3
  three_wide l h = let m : 128 ≤ c = omega arith in rw (le-ltb c 128 m, le-ltb c 2048 l, lt-ltb c 65536 h)

  four_wide : 65536 ≤ c → len_utf8 c ≡ 4
  four_wide l = let m : 128 ≤ c = omega arith in let n : 2048 ≤ c = omega arith in rw (le-ltb c 128 m, le-ltb c 2048 n, le-ltb c 65536 l)

module _ (text : List ℕ) (i : ℕ) where
  byte : (k c : ℕ) (rest : List ℕ) → drop i text ≡ encode c ++ rest → get_or text (i + k) 0 ≡ get_or (encode c ++ rest) k 0
  byte k c rest e = sym (get_or-drop i text k 0) ∙ ap (λ (l : List ℕ). get_or l k 0) e

  first : (c : ℕ) (rest : List ℕ) → drop i text ≡ encode c ++ rest → get_or text i 0 ≡ get_or (encode c ++ rest) 0 0
  first c rest e = ap (λ (n : ℕ). get_or text n 0) (sym (add-zero i)) ∙ byte 0 c rest e

  pub ink-one : IsPlain (get_or text i 0) → Ink text i 1
  ink-one p c rest e =
      by_class c
      (λ (h : c < 128). let q : get_or text i 0 ≡ c = first c rest e ∙ one c rest h in (rw (lt-ltb c 128 h), ap white (sym q) ∙ plain-ink (get_or text i 0) p))
      (λ l h. absurd (omega (arith, p.1, first c rest e, two c rest l h)))
      (λ l h. absurd (omega (arith, p.1, first c rest e, (three c rest l h).0)))
      (λ l. absurd (omega (arith, p.1, first c rest e, four c rest l)))

  pub ink-low : get_or text i 0 < 9 → Ink text i 1
  ink-low p c rest e =
      by_class c
      (λ (h : c < 128). let q : get_or text i 0 ≡ c = first c rest e ∙ one c rest h in (rw (lt-ltb c 128 h), ink-control c (omega (arith, p, q))))
      (λ l h. absurd (omega (arith, p, first c rest e, two c rest l h)))
      (λ l h. absurd (omega (arith, p, first c rest e, (three c rest l h).0)))
      (λ l. absurd (omega (arith, p, first c rest e, four c rest l)))

  pub ink-two : 0xC3 ≤ get_or text i 0 → get_or text i 0 < 0xE0 → Ink text i 2
  ink-two f t c rest e =
      by_class c
      (λ (h : c < 128). absurd (omega (arith, first c rest e, one c rest h)))
      (λ l h. (two_wide c rest l h, ink-latin c (omega (arith, first c rest e, two c rest l h)) (omega arith)))
      (λ l h. absurd (omega (arith, first c rest e, (three c rest l h).0)))
      (λ l. absurd (omega (arith, first c rest e, four c rest l)))

  pub ink-three : 0xE4 ≤ get_or text i 0 → get_or text i 0 < 0xF0 → Ink text i 3
  ink-three f t c rest e =
      by_class c
      (λ (h : c < 128). absurd (omega (arith, first c rest e, one c rest h)))
      (λ l h. absurd (omega (arith, first c rest e, two c rest l h)))
      (λ l h. (three_wide c rest l h, ink-far c (omega (arith, first c rest e, (three c rest l h).0))))
      (λ l. absurd (omega (arith, first c rest e, four c rest l)))

  pub ink-past : get_or text i 0 ≡ 0xE3 → 0x80 < get_or text (i + 1) 0 → Ink text i 3
  ink-past f t c rest e =
      by_class c
      (λ (h : c < 128). absurd (omega (arith, first c rest e, one c rest h)))
      (λ l h. absurd (omega (arith, first c rest e, two c rest l h)))
      (λ l h. (three_wide c rest l h, ink-far c (omega (arith, first c rest e, byte 1 c rest e, (three c rest l h).0, (three c rest l h).1))))
      (λ l. absurd (omega (arith, first c rest e, four c rest l)))

  pub ink-four : 0xF0 ≤ get_or text i 0 → Ink text i 4
  ink-four f c rest e =
      by_class c
      (λ (h : c < 128). absurd (omega (arith, first c rest e, one c rest h)))
      (λ l h. absurd (omega (arith, first c rest e, two c rest l h)))
      (λ l h. absurd (omega (arith, first c rest e, (three c rest l h).0)))
      (λ l. (four_wide c rest l, ink-far c (omega arith)))

-- ---- in a token
module _ {text : List ℕ} (u : IsUtf8 text) {start at : ℕ} (p : Inside text start at) (h : at < length text) where
  pub inside_ink : {width : ℕ} → IsCharBoundary text start → get_or text start 0 ≢ 0x23 → Ink text at width
      → Inside text start (at + width) × (0 < width) × (at + width ≤ length text)
  inside_ink {width} b other ink =
      let s = some-char u p.boundary h in
      let a : CharAt text at s.0 = s.1 in
      let k = ink s.0 a.rest a.bytes in
      (subst (λ (n : ℕ). Inside text start (at + n)) k.0 (inside_more p a k.1 (no_hash-first u b other a)), omega (arith, k.0, len_utf8_bounds s.0), omega (arith, k.0, a.boundary.0))

  pub ends_blank : get_or text at 0 < 0x80 → white (get_or text at 0) ≡ true → Ends text start at (at + 1)
  ends_blank low t =
      ends_white p (byte-char u at h low) t (ap (λ (n : ℕ). at + n) (sym (len_utf8_ascii (get_or text at 0) low)))
