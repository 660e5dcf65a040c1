-- The table of a simple rank, run by run.
use Rattle.std.proofs.Common.{◌≡◌, ℕ, ◌+◌, ◌*◌, ◌/◌, ◌%◌, ◌^◌, ◌<◌, ◌≤◌, Bool, List, length, get_or, count_ones, ap, arith}
use Rattle.std.specs.Int.{div_ceil}
use Rattle.std.proofs.lemmas.List.FromFn.{length-map-range_with_len, get_or-map-range_with_len}
use Rattle.bit_lists.proofs.lemmas.CountLemmas.{ones_before-bits_of_in_word, ones_before-at_most_all}
use Rattle.bit_lists.specs.Bits.{bits_of}
use Rattle.bit_lists.specs.Count.{ones_before}
use Rattle.bitm.specs.Simple.{simple_table_of}

-- entry k of the table
pub get_or-simple_table_of : (b : List Bool) (k d : ℕ) → k < div_ceil (length b) 512 → get_or (simple_table_of b) k d ≡ ones_before b (512 * k)
unfolding simple_table_of
get_or-simple_table_of b k d l = get_or-map-range_with_len (λ j. ones_before b (512 * j)) 0 (div_ceil (length b) 512) k k d l (omega arith)

pub length-simple_table_of : (b : List Bool) → length (simple_table_of b) ≡ div_ceil (length b) 512
unfolding simple_table_of
length-simple_table_of b = length-map-range_with_len (λ j. ones_before b (512 * j)) 0 (div_ceil (length b) 512)

-- a position has its run in the table
pub run_begun : (n i : ℕ) → i < n → i / 512 < div_ceil n 512
run_begun n i l = grind arith

-- n words have as many runs of eight words as runs of 512 bits
pub runs_of_words : (n : ℕ) → div_ceil n 8 ≡ div_ceil (64 * n) 512
runs_of_words n = grind arith

-- what is counted up to position i, that one included, from its run and from its word on
pub record CountsThrough (b : List Bool) (i run whole part : ℕ) : Type 0 where
  pub word : run + whole ≡ ones_before b (64 * (i / 64))
  pub position : run + whole + part ≡ ones_before b (i + 1)
  pub most : ones_before b (i + 1) ≤ ones_before b (length b)

pub counts_through : (words : List ℕ) (i whole : ℕ) → i < 64 * length words → ((j : ℕ) → get_or words j 0 < 2 ^ 64)
    → ones_before (bits_of words) (64 * (i / 512 * 8)) + whole ≡ ones_before (bits_of words) (64 * (i / 64))
    → CountsThrough (bits_of words) i (ones_before (bits_of words) (512 * (i / 512))) whole
    (count_ones (get_or words (i / 64) 0 % 2 ^ (i % 64 + 1)))
counts_through words i whole inside fit is =
    let b = bits_of words in
    let from : 64 * (i / 512 * 8) ≡ 512 * (i / 512) = omega arith in
    let at : 64 * (i / 64) + (i % 64 + 1) ≡ i + 1 = omega arith in
    let in_word = ones_before-bits_of_in_word words (i / 64) (omega arith) (i % 64 + 1) (omega arith) in
    let word_is : ones_before b (512 * (i / 512)) + whole ≡ ones_before b (64 * (i / 64)) = omega (arith, is, ap (ones_before b) from) in
    record {
      word = word_is;
      position = omega (arith, word_is, in_word, ap (ones_before b) at);
      most = ones_before-at_most_all b (i + 1);
    }
