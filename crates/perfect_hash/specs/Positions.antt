-- Where a hash falls in a level.
use Rattle.std.specs.Prelude.{ℕ, ◌+◌, ◌*◌, ◌/◌, ◌%◌, ◌^◌, bit_xor, max, List, slice_index}

-- x, its higher half folded down by the given number of bits, times a number
abbrev pub folded_by : ℕ → ℕ → ℕ → ℕ
folded_by by times x = bit_xor x (x / 2 ^ by) * times % 2 ^ 64

-- number `level` of the generator splitmix64 that begins at the hash
unfoldable pub spread : ℕ → ℕ → ℕ
spread hash level =
    let start = (hash + (level + 1) * 0x9E3779B97F4A7C15 % 2 ^ 64) % 2 ^ 64 in
    let z = folded_by 27 0x94D049BB133111EB (folded_by 30 0xBF58476D1CE4E5B9 start) in
    bit_xor z (z / 2 ^ 31)

-- the bit of a level of the given number of words that a hash falls on: the spread number, as a fraction of 2^64, of
-- the bits
unfoldable pub position_in : ℕ → ℕ → ℕ → ℕ
position_in hash level words = spread hash level % 2 ^ 64 * (64 * words) / 2 ^ 64

-- the bit of a word that a spread number falls on by a seed
unfoldable pub bit_by : ℕ → ℕ → ℕ
bit_by seed x = folded_by 32 0xBF58476D1CE4E5B9 ((x + seed * 0x9E3779B97F4A7C15 % 2 ^ 64) % 2 ^ 64) / 2 ^ 58

-- the word of a level of the given number of words that a hash falls in
abbrev pub word_of : ℕ → ℕ → ℕ → ℕ
word_of level words hash = spread hash level % 2 ^ 64 * words / 2 ^ 64

-- what chooses the bit of a word by its seed, and of how many seeds it tries
pub record Seeds : Type 0 where
  pub seeds : List ℕ
  pub tries : ℕ

-- the bit of a level, whose first word is number `begin` of all, that a hash falls on: of the word that the spread
-- number is a fraction of, the bit by that word's seed
unfoldable pub position_by : List ℕ → ℕ → ℕ → ℕ → ℕ → ℕ
position_by seeds begin hash level words =
    let word = spread hash level % 2 ^ 64 * words / 2 ^ 64 in
    64 * word + bit_by (slice_index seeds (begin + word)) (spread hash level)

-- how many words a level for n keys has: `percent` bits for each 100 keys, no fewer than 50, and one word at least
abbrev pub words_for : ℕ → ℕ → ℕ
words_for percent n = n * max percent 50 / 6400 + 1
