-- A word's number, its row in the code's table, and what is read of the row; where the code looks a name up.
use Rattle.std.specs.Prelude.{ℕ, Bool, ◌+◌, ◌-◌, ◌*◌, ◌^◌, ◌%◌, ◌≤◌, ◌<◌, ◌≡◌, ◌&&◌, bit_and, eqb, List, [], map, length, get_or, take, drop, Some, None}
use Rattle.std.specs.Int.{w64, from_le_bytes}
use Rattle.words.specs.declared.table.TheConstants.{WORDS, PLACES}
use Rattle.words.specs.declared.table.Row as code
use Rattle.words.specs.Words.{Word, words, lookup, mul, add, sub, lt, le, eq, gt, ge, and, or, xor, rotate_left, rotate_right, shift_left, shift_right, count_ones, leading_zeros, trailing_zeros, copy, drop as drop_word, div, read, write, jump, jump_if, call, call_either, return, assert, yield}

abbrev pub number : Word → ℕ
number mul = 0
number add = 1
number sub = 2
number lt = 3
number le = 4
number eq = 5
number gt = 6
number ge = 7
number and = 8
number or = 9
number xor = 10
number rotate_left = 11
number rotate_right = 12
number shift_left = 13
number shift_right = 14
number count_ones = 15
number leading_zeros = 16
number trailing_zeros = 17
number copy = 18
number drop_word = 19
number div = 20
number read = 21
number write = 22
number jump = 23
number jump_if = 24
number call = 25
number call_either = 26
number return = 27
number assert = 28
number yield = 29

abbrev pub own_name : code.Row → List ℕ
own_name r = take r.length r.name

unfoldable pub spelled : Word → List ℕ
spelled w = get_or (map own_name WORDS) (number w) []

-- Where a name is looked for: at its place, and at the one beside it (the lowest bit turned).
abbrev pub place : (first length : ℕ) → ℕ
place first length = (first * 4 + length) % 2 ^ 64 % 128

abbrev pub placed : (place : ℕ) → Word
placed place = get_or PLACES (place % 128) mul

-- ---- eight bytes

abbrev pub low : code.Row → ℕ
low r = from_le_bytes w64 (take 8 r.name)

-- A row's name is as long, and has what its mask leaves of the eight bytes.
abbrev pub begins : code.Row → (eight n : ℕ) → Bool
begins r eight n = eqb r.length n && eqb (bit_and eight r.mask) (low r)

-- The first n of eight bytes are the word's name.
abbrev pub Begins : (bytes : List ℕ) (n : ℕ) → Word → Type 0
Begins bytes n w = (1 ≤ n) × (n ≤ 8) × (lookup (take n bytes) words ≡ Some w)

-- A part of a text is a word's name.
abbrev pub Spells : (text : List ℕ) (start end : ℕ) → Word → Type 0
Spells text start end w = (start < end) × (end ≤ length text) × (lookup (take (end - start) (drop start text)) words ≡ Some w)

-- Such a part of from one to eight bytes is no word's name.
abbrev pub SpellsNone : (text : List ℕ) (start end : ℕ) → Type 0
SpellsNone text start end = start < end → end ≤ start + 8 → lookup (take (end - start) (drop start text)) words ≡ None
