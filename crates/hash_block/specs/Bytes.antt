-- Bytes in words.
use Rattle.std.specs.Prelude.{◌≡◌, ℕ, ◌+◌, ◌*◌, ◌<◌, ◌≤◌, List, length, slice_index}
use Rattle.bit_lists.specs.Bits.{bits_of}
use Rattle.bit_lists.specs.Number.{number_at}

-- byte k of words: eight bits, the lowest of a word first
abbrev pub byte_of : List ℕ → ℕ → ℕ
byte_of words k = number_at (bits_of words) (k * 8) 8

-- the bytes of a list from `begin` on
abbrev pub bytes_from : List ℕ → ℕ → ℕ → ℕ
bytes_from bytes begin j = slice_index bytes (begin + j)

-- the bytes of words from `begin` on
abbrev pub stored_from : List ℕ → ℕ → ℕ → ℕ
stored_from words begin j = byte_of words (begin + j)

-- the first `len` bytes of words from `at` on are those of a string
abbrev pub StandsAt : List ℕ → ℕ → (ℕ → ℕ) → ℕ → Type 0
StandsAt words at string len = (j : ℕ) → j < len → stored_from words at j ≡ string j

-- the bytes of words from `first` on are 0
abbrev pub AreZeroBytesFrom : List ℕ → ℕ → Type 0
AreZeroBytesFrom words first = (k : ℕ) → first ≤ k → k < 8 * length words → byte_of words k ≡ 0
