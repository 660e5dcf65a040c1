-- The tables are those of the words.
use Rattle.bitm_tables.proofs.lemmas.LengthLemmas.{sizes_of}
use Rattle.bitm_tables.proofs.ranking.bit_and_rank_on.Goals as goal

pub total_bit_and_rank_on-requires : goal.total_bit_and_rank_on-requires
total_bit_and_rank_on-requires g c = sizes_of _ c.requires.tables c.requires.short
