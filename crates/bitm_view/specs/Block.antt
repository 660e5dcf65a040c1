-- An index whose lists lie in the caller's memory, built in one call.
use Rattle.std.specs.Prelude.{◌≡◌, ◌≢◌, ℕ, zero, suc, ◌+◌, ◌-◌, ◌*◌, ◌^◌, ◌<◌, ◌≤◌, Bool, true, false, List, length, take, drop}
use Rattle.std.specs.Int.{div_ceil}
use Rattle.bit_lists.specs.Bits.{bits_of, item}
use Rattle.bitm_strategies.specs.Density.{clamped_log}
use Rattle.bitm_tables.specs.Tables.{HasTables}
use Rattle.tables_view.specs.Samples.{enough_samples, AreSamples}
use Rattle.tables_view.specs.Sizes.{lists_of}

-- the room for samples of one kind of the given number of words at a logarithm, where 0 stands for no samples
abbrev pub sample_room : ℕ → ℕ → ℕ
sample_room words zero = 0
sample_room words (suc log) = enough_samples words (suc log)

-- with samples there is a start for each upper block of the words
abbrev pub starts_of : ℕ → ℕ → ℕ
starts_of zero upper = 0
starts_of (suc log) upper = upper

-- the index of the first sample of 0 bits after the given number of samples of 1 bits: samples have four bytes, and
-- each kind starts at a multiple of 64 bytes
abbrev pub zeros_from : ℕ → ℕ
zeros_from ones = div_ceil ones 16 * 16

-- new is the first n bits of b, and 0 bits after them
pub record AreFirst (b : List Bool) (n : ℕ) (new : List Bool) : Type 0 where
  pub first : (i : ℕ) → i < n → item new i ≡ item b i
  pub past : (i : ℕ) → n ≤ i → item new i ≡ false

-- the words have n bits, and the lists have the lengths that an index of these needs
pub record HasBlockRoom (words : List ℕ) (n log log0 : ℕ) (to upper lower starts starts0 samples : List ℕ) : Type 0 where
  pub source : n ≤ 64 * length words
  pub short : n ≤ 2 ^ 64 - 64
  pub words_len : length to ≡ div_ceil n 64
  pub upper_len : length upper ≡ div_ceil (length to) (2 ^ 26)
  pub lower_len : length lower ≡ div_ceil (length to) 32
  pub starts_len : length starts ≡ starts_of log (length upper)
  pub starts0_len : length starts0 ≡ starts_of log0 (length upper)
  pub samples_len : zeros_from (sample_room (length to) log) + sample_room (length to) log0 ≤ length samples

-- the lists are the first n bits of the words, their tables, and the given numbers of samples of 1 bits and of 0 bits
pub record IsIndexBlock (words : List ℕ) (n log log0 : ℕ) (to upper lower starts starts0 samples : List ℕ) (ones zeros : ℕ) : Type 0 where
  pub bits : AreFirst (bits_of words) n (bits_of to)
  pub tables : HasTables (lists_of to upper lower)
  pub few : ones ≤ sample_room (length to) log
  pub few0 : zeros ≤ sample_room (length to) log0
  pub of_ones : log ≢ 0 → AreSamples (bits_of to) true (clamped_log log) (take ones samples) starts
  pub of_zeros : log0 ≢ 0 → AreSamples (bits_of to) false (clamped_log log0) (take zeros (drop (zeros_from ones) samples)) starts0
