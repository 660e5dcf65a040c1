-- Seeds in words: eight in a word, the lowest byte first.
use Rattle.std.specs.Prelude.{◌≡◌, ℕ, ◌*◌, ◌<◌, List, length, map, slice_index}
use Rattle.std.specs.List.{range_with_len}
use Rattle.bit_lists.specs.Bits.{bits_of}
use Rattle.bit_lists.specs.Number.{number_at}

-- seed k of words: eight bits, the lowest of a word first
abbrev pub seed_of : List ℕ → ℕ → ℕ
seed_of words k = number_at (bits_of words) (k * 8) 8

-- the first n seeds of words
unfoldable pub seeds_of : List ℕ → ℕ → List ℕ
seeds_of words n = map (seed_of words) (range_with_len 0 n)

-- these are bytes of words, from the first on
abbrev pub AreBytesOf : List ℕ → List ℕ → Type 0
AreBytesOf words bytes = (k : ℕ) → k < length bytes → slice_index bytes k ≡ seed_of words k
