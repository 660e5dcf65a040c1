-- The tables are those of the words, and there are quarters of all bits.
use Rattle.std.proofs.Common.{arith}
use Rattle.bitm_tables.proofs.lemmas.LengthLemmas.{sizes_of}
use Rattle.bitm_tables.proofs.lemmas.QuarterLemmas.{quarters-enough}
use Rattle.bitm_tables.proofs.quarters.rank_by_quarters_on.Goals as goal

pub ones_by_quarters_on-requires-clause-sized : goal.ones_by_quarters_on-requires-clause-sized
ones_by_quarters_on-requires-clause-sized g c = sizes_of _ c.requires.indexed.tables c.requires.indexed.short

pub ones_by_quarters_on-requires-clause-quarters : goal.ones_by_quarters_on-requires-clause-quarters
ones_by_quarters_on-requires-clause-quarters g c = omega (arith, quarters-enough _ _ c.requires.quarters, c.requires.inside)
