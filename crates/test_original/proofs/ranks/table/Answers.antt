-- A run that is begun has a first bit.
use Rattle.std.proofs.Common.{length, ap, arith}
use Rattle.bitm.proofs.Callers.{length-bits_of}
use Rattle.test_original.proofs.ranks.table.Goals as goal

pub rank-requires : goal.rank-requires
rank-requires c = omega (arith, c.div_ceil-run-end.ensures, ap length c.as_slice.ensures, length-bits_of c.args.index.now.now)
