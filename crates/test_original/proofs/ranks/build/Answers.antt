-- The ones were counted, and few enough.
use Rattle.std.proofs.Common.{arith}
use Rattle.test_original.proofs.ranks.build.Goals as goal

pub build-requires-clause-few : goal.build-requires-clause-few
build-requires-clause-few c = omega (arith, c.count_bit_ones.ensures)
