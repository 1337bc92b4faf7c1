-- A memory in its lent buffer, and what its methods do to it.
use Rattle.std.specs.Prelude.{ℕ, List, ◌≡◌, ◌<◌, ◌≤◌, length, get_or, set, Result, MatchResult}
use Rattle.store.specs.declared.memory.Memory.{Memory}
use Rattle.store.specs.declared.memory.InvalidAddress.{InvalidAddress}

-- the word at an address, or none is there
abbrev pub Reads : (address : ℕ) (words : List ℕ) → Result ℕ InvalidAddress → Type 0
Reads a ws r = MatchResult r (λ word. (a < length ws) × (get_or ws a 0 ≡ word)) (λ _. length ws ≤ a)

-- the word at an address is set, or none is there and all stays
abbrev pub Writes : (address word : ℕ) (before after : Memory) → Result (Unit {0}) InvalidAddress → Type 0
Writes a w m n r =
    MatchResult r (λ _. (a < length m.words.now) × (n.words.now ≡ set m.words.now a w)) (λ _. (length m.words.now ≤ a) × (n ≡ m))

-- the same lent buffer
abbrev pub SameWords : Memory → Memory → Type 0
SameWords a b = b.words.ghost_name ≡ a.words.ghost_name
