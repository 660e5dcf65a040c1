-- The tables are those of the words, and there are quarters of all bits.
use Rattle.std.proofs.Common.{arith}
use Rattle.bitm_tables.proofs.lemmas.LengthLemmas.{sizes_of}
use Rattle.bitm_tables.proofs.lemmas.QuarterLemmas.{quarters-enough}
use Rattle.bitm_tables.proofs.quarters.bit_and_rank_by_quarters_on.Goals as goal

pub bit_and_ones_by_quarters_on-requires-clause-sized : goal.bit_and_ones_by_quarters_on-requires-clause-sized
bit_and_ones_by_quarters_on-requires-clause-sized g c = sizes_of _ c.requires.indexed.tables c.requires.indexed.short

pub bit_and_ones_by_quarters_on-requires-clause-quarters : goal.bit_and_ones_by_quarters_on-requires-clause-quarters
bit_and_ones_by_quarters_on-requires-clause-quarters g c = omega (arith, quarters-enough _ _ c.requires.quarters, c.requires.inside)
