-- What a caller sees of sparse bits. Their positions are those of the 1 bits, so they are no part of it.
use Rattle.std.specs.Prelude.{ℕ, ◌+◌, ◌*◌, ◌^◌, Bool, List}
use Rattle.std.specs.Int.{div_ceil}
use Rattle.bitm_bits.specs.Size.{saturated_size}
use Rattle.elias_fano.specs.Parts.{width_of, low_words_of, upper_words_of}

-- the bits, and the two strategies that select in the upper vector of the positions
pub record SparseValue (S S0 : Type 0) : Type 0 where
  pub bits : List Bool
  pub select : S
  pub select0 : S0

-- how many bytes a sequence of these numbers takes, and its two strategies
abbrev pub bytes_taken : List ℕ → ℕ → ℕ → ℕ
bytes_taken xs s s0 =
    let l = width_of xs in
    let words = upper_words_of xs l in
    saturated_size (8 * low_words_of xs l + 8 * words + 8 * div_ceil words (2 ^ 26) + 8 * div_ceil words 32 + s + s0)
