-- Each word's name is in the table at one of its two places, and tells the word: computed tests of the 30 rows.
use Rattle.std.proofs.Common.{◌≡◌, ℕ, ◌<◌, ◌≢◌, arith, Bool, true, false, ◌&&◌, List, [], ◌∷◌, length, get_or, refl, sym, ◌∙◌, Option, Some, None}
use Rattle.std.proofs.lemmas.Bool.{and_parts}
use Rattle.std.specs.Prelude.{◌||◌, bit_xor}
use Rattle.std.proofs.lemmas.List.{get_or-map}
use Rattle.base.proofs.Tests.{cond_by, absurd_bool}
use Rattle.names.specs.Names.{same_bytes}
use Rattle.names.proofs.Same.{same-equal}
use Rattle.words.specs.declared.table.TheConstants.{WORDS}
use Rattle.words.specs.declared.table.Row as code
use Rattle.words.specs.Words.{Word, Row, words, lookup, mul, add, sub, lt, le, eq, gt, ge, and, or, xor, rotate_left, rotate_right, shift_left, shift_right, count_ones, leading_zeros, trailing_zeros, copy, drop as drop_word, div, read, write, jump, jump_if, call, call_either, return, assert, yield}
use Rattle.words.specs.Places.{own_name, spelled, number, place, placed}

pub below : (w : Word) → number w < 30
below mul = omega arith
below add = omega arith
below sub = omega arith
below lt = omega arith
below le = omega arith
below eq = omega arith
below gt = omega arith
below ge = omega arith
below and = omega arith
below or = omega arith
below xor = omega arith
below rotate_left = omega arith
below rotate_right = omega arith
below shift_left = omega arith
below shift_right = omega arith
below count_ones = omega arith
below leading_zeros = omega arith
below trailing_zeros = omega arith
below copy = omega arith
below drop_word = omega arith
below div = omega arith
below read = omega arith
below write = omega arith
below jump = omega arith
below jump_if = omega arith
below call = omega arith
below call_either = omega arith
below return = omega arith
below assert = omega arith
below yield = omega arith

pub known : (w : Word) → lookup (spelled w) words ≡ Some w
unfolding spelled words lookup same_bytes
known mul = refl
known add = refl
known sub = refl
known lt = refl
known le = refl
known eq = refl
known gt = refl
known ge = refl
known and = refl
known or = refl
known xor = refl
known rotate_left = refl
known rotate_right = refl
known shift_left = refl
known shift_right = refl
known count_ones = refl
known leading_zeros = refl
known trailing_zeros = refl
known copy = refl
known drop_word = refl
known div = refl
known read = refl
known write = refl
known jump = refl
known jump_if = refl
known call = refl
known call_either = refl
known return = refl
known assert = refl
known yield = refl

-- ---- the name of a row

pub spelled_is : (w : Word) (i : ℕ) (d : code.Row) → i ≡ number w → own_name (get_or WORDS i d) ≡ spelled w
unfolding spelled
spelled_is w i d e = rw e (sym (get_or-map own_name WORDS (number w) d [] (below w)))

-- ---- a name that stands at neither of its places is no word's

abbrev found : (name : List ℕ) → Bool
found name =
    let p = place (get_or name 0 0) (length name) in
    same_bytes (spelled (placed p)) name || same_bytes (spelled (placed (bit_xor p 1))) name

unfoldable each_found : List Row → Bool
each_found [] = true
each_found (r ∷ rows) = found r.name && each_found rows

test : each_found words ≡ true
unfolding each_found words spelled same_bytes
test = refl

none_of : (rows : List Row) → each_found rows ≡ true → (name : List ℕ) → found name ≡ false → lookup name rows ≡ None
unfolding each_found lookup
none_of [] t name n = refl
none_of (r ∷ rows) t name n =
    let p = and_parts (found r.name) (each_found rows) t in
    cond_by (λ (o : Option Word). o ≡ None) (same_bytes r.name name)
    (λ e. let k = rw (same-equal r.name name e) at p.0 in absurd_bool (sym n ∙ k))
    (λ e. none_of rows p.1 name n)

another : (w : Word) (name : List ℕ) → spelled w ≢ name → same_bytes (spelled w) name ≡ false
another w name n = by_test (same_bytes (spelled w) name) refl
  where
    by_test : (t : Bool) → same_bytes (spelled w) name ≡ t → t ≡ false
    by_test true e = absurd (n (same-equal (spelled w) name e))
    by_test false e = refl

pub no_word : (name : List ℕ) (p : ℕ) → p ≡ place (get_or name 0 0) (length name) → spelled (placed p) ≢ name → spelled (placed (bit_xor p 1)) ≢ name
    → None ≡ lookup name words
no_word name p is n m = sym (none_of words test name (rw (← is, another (placed p) name n, another (placed (bit_xor p 1)) name m) refl))

pub a_word : (w : Word) (name : List ℕ) → spelled w ≡ name → Some w ≡ lookup name words
a_word w name e = let k = known w in sym (rw e at k)

pub no_name : (name : List ℕ) → length name ≡ 0 → None ≡ lookup name words
unfolding words lookup same_bytes
no_name [] e = refl
no_name (b ∷ name) e = absurd (omega arith)
