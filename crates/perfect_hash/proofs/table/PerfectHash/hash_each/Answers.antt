-- A key that stands at a position is before the end.
use Rattle.std.proofs.Common.{arith}
use Rattle.std.proofs.lemmas.Option.{slice_get_within}
use Rattle.perfect_hash.proofs.table.PerfectHash.hash_each.Goals as goal

pub returns : goal.returns
returns g c k key is = c.loop-k.invariant.each k key (omega (arith, c.loop-k-test.false, slice_get_within _ k key is)) is
