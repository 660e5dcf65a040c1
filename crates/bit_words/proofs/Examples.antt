-- The definitions compute: values that were worked out by hand.
use Rattle.std.proofs.Common.{◌≡◌, true, false, [], ◌∷◌, refl, take}
use Rattle.bit_lists.specs.Bits.{low_digits, bits_of, item, digit_count}
use Rattle.bit_words.specs.Bytes.{byte_bits_of, byte_window, with_window}
use Rattle.bit_lists.specs.Count.{ones_before, zeros_before, bit_positions}
use Rattle.bit_lists.specs.Number.{number_of_bits, number_at, with_number}
use Rattle.bit_lists.specs.Window.{reach_of, with_flips}

lowest_bit_first : take 5 (bits_of (13 ∷ [])) ≡ true ∷ false ∷ true ∷ true ∷ false ∷ []
unfolding bits_of
lowest_bit_first = refl

bit_100_of_32_words : item (bits_of (0 ∷ 0x10_0000_0000 ∷ [])) 100 ≡ true
unfolding bits_of
bit_100_of_32_words = refl

ones_before_a_position : ones_before (bits_of (13 ∷ 6 ∷ [])) 66 ≡ 4
unfolding ones_before bits_of
ones_before_a_position = refl

ones_past_the_end_are_all : ones_before (bits_of (13 ∷ 6 ∷ [])) 1000 ≡ 5
unfolding ones_before bits_of
ones_past_the_end_are_all = refl

zeros_before_a_position : zeros_before (bits_of (13 ∷ 6 ∷ [])) 128 ≡ 123
unfolding zeros_before bits_of
zeros_before_a_position = refl

positions_of_ones_rise : bit_positions true 0 (bits_of (13 ∷ 6 ∷ [])) ≡ 0 ∷ 2 ∷ 3 ∷ 65 ∷ 66 ∷ []
unfolding bits_of
positions_of_ones_rise = refl

reads_over_a_word_border : number_at (bits_of (0x4000_0000_0000_0000 ∷ 1 ∷ [])) 62 3 ≡ 5
unfolding number_at number_of_bits bits_of
reads_over_a_word_border = refl

width_zero_reads_zero : number_at (bits_of (13 ∷ [])) 3 0 ≡ 0
unfolding number_at number_of_bits bits_of
width_zero_reads_zero = refl

writes_over_a_word_border : with_number (bits_of (0 ∷ 0 ∷ [])) 62 3 5 ≡ bits_of (0x4000_0000_0000_0000 ∷ 1 ∷ [])
unfolding with_number low_digits bits_of
writes_over_a_word_border = refl

reach_to_the_end_of_the_word : reach_of 4 8 ≡ 60
reach_to_the_end_of_the_word = refl

reach_of_a_range_over_a_border : reach_of 60 8 ≡ 64
reach_of_a_range_over_a_border = refl

flips_past_the_length : with_flips (bits_of (0 ∷ 5 ∷ [])) 48 64 0xFF ≡ bits_of (0x00FF_0000_0000_0000 ∷ 5 ∷ [])
unfolding with_flips low_digits bits_of
flips_past_the_length = refl

window_of_eight_bytes : number_of_bits (byte_window (byte_bits_of (0x10 ∷ 0x32 ∷ 0x54 ∷ 0x76 ∷ 0x98 ∷ 0xBA ∷ 0xDC ∷ 0xFE ∷ [])) 4 8) ≡ 0x0FED_CBA9_8765_4321
unfolding byte_window byte_bits_of number_of_bits
window_of_eight_bytes = refl

window_of_four_bytes : number_of_bits (byte_window (byte_bits_of (0x10 ∷ 0x32 ∷ 0x54 ∷ 0x76 ∷ 0x98 ∷ 0xBA ∷ 0xDC ∷ 0xFE ∷ [])) 36 4) ≡ 0x0FED_CBA9
unfolding byte_window byte_bits_of number_of_bits
window_of_four_bytes = refl

bytes_are_begun : with_window (byte_bits_of (0 ∷ 0 ∷ 0 ∷ 0 ∷ 0 ∷ 0 ∷ 0 ∷ 0 ∷ 0 ∷ [])) 11 8 0x1FF 0 ≡ byte_bits_of (0 ∷ 0xF8 ∷ 0x0F ∷ 0 ∷ 0 ∷ 0 ∷ 0 ∷ 0 ∷ 0 ∷ [])
unfolding with_window byte_bits_of
bytes_are_begun = refl

bytes_are_replaced : with_window (byte_bits_of (255 ∷ 255 ∷ 255 ∷ 255 ∷ 255 ∷ 255 ∷ 255 ∷ 255 ∷ [])) 3 8 1 3 ≡ byte_bits_of (0xEF ∷ 255 ∷ 255 ∷ 255 ∷ 255 ∷ 255 ∷ 255 ∷ 255 ∷ [])
unfolding with_window byte_bits_of
bytes_are_replaced = refl

digits_of_numbers : digit_count 0 ∷ digit_count 1 ∷ digit_count 7 ∷ digit_count 8 ∷ digit_count 15 ∷ digit_count 16 ∷ [] ≡ 0 ∷ 1 ∷ 3 ∷ 4 ∷ 4 ∷ 5 ∷ []
unfolding digit_count
digits_of_numbers = refl
