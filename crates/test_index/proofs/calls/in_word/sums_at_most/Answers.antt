-- The sums of a word's bytes are at most 64.
use Rattle.bitm.proofs.Callers.{sums_at, small_le, sums_small}
use Rattle.test_index.proofs.calls.in_word.sums_at_most.Goals as goal

pub bytes_at_most-requires-clause-small : goal.bytes_at_most-requires-clause-small
bytes_at_most-requires-clause-small c = small_le _ (sums_small _ _ (sums_at _ c.byte_sums.result c.byte_sums.ensures))
