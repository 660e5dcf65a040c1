-- The laws of bits, for attributes and answers of callers: what `bit_lists` says of each.
pub use Rattle.bit_lists.proofs.BitLaws.{read_after_write, negated_twice, swapped_twice, swapped_with_itself}
pub use Rattle.bit_lists.proofs.BitLaws.{digits_bound_powers, ones_and_zeros, ones_and_zeros_of_content, counts_grow}
pub use Rattle.bit_lists.proofs.BitLaws.{count_after_item, none_before_the_first, at_most_one_picked}
pub use Rattle.bit_lists.proofs.BitLaws.{one_picked_for_each_rank, none_picked_from_the_count_on, rank_of_picked}
pub use Rattle.bit_lists.proofs.BitLaws.{picked_by_rank, next_one_is_selected, positions_rise, positions_are_picked}
pub use Rattle.bit_lists.proofs.BitLaws.{positions_are_counted, all_bits_come, no_bits_come, bits_come_from_the_front}
pub use Rattle.bit_lists.proofs.BitLaws.{bits_come_from_the_back, each_bit_once, bits_are_counted, position_is_inside}
pub use Rattle.bit_lists.proofs.BitLaws.{word_is_its_bits, zeros_have_no_ones, zeros_are_counted, zeros_are_zero}
pub use Rattle.bit_lists.proofs.BitLaws.{no_items_are_zero, length_is_kept, one_bit_is_set, item_is_written}
pub use Rattle.bit_lists.proofs.BitLaws.{item_beside_is_kept, number_beside_is_kept, count_before_is_kept}
pub use Rattle.bit_lists.proofs.BitLaws.{one_more_is_set, one_more_is_cleared, last_one_is_set, item_of_stretch}
pub use Rattle.bit_lists.proofs.BitLaws.{count_in_stretch, picked_in_stretch, picked_between, count_is_of_same, equal_items_count}
pub use Rattle.bit_lists.proofs.BitLaws.{equal_items_count_for_one, counts_agree, bits_are_joined, bit_is_digit}
pub use Rattle.bit_lists.proofs.BitLaws.{item_after_write, laws}
