-- What callers name in an attribute, as `#[tactic(auto, using(bitm_bits::proofs::Callers::after_writes))]`, and in
-- answers: what `bit_lists` hands on. The files of this name there say what each is.
use Rattle.bit_lists.proofs.Callers.{after_writes as bits_after_writes}
pub use Rattle.bit_lists.proofs.Callers.{next_zero, last_one, last_zero, no_one_to, no_zero_to, one_from, zero_from, ones_grow, zeros_grow, ones_are_bits, zeros_are_bits, zero_picked_by_its_rank, few_ones, one_below, zero_below, bit_written, picked_by_its_rank, positions_counted, ones_of_first, ones_of_nothing, all_bits_come, counts, bit_by_bit}
pub use Rattle.bit_lists.proofs.Callers.{Picks-positions, bits_of-nil, item-bits_of, item-with_number_beside, length-bits_of, length-positions, length-with_number, number_at-lt, ones_before-add-zeros_before, rank_below, with_number-one}
pub use Rattle.bitm_bits.proofs.lemmas.AppendLemmas.{written_back}

-- what a read needs after a write: of the same bits or beside them, and where each lends the owner of its own
pub ruleset after_writes = (bits_after_writes, written_back)
