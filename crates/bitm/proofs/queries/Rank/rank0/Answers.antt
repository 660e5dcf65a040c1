-- The ones before a position and the zeros before it are all that stands before it.
use Rattle.std.proofs.Common.{arith}
use Rattle.bit_lists.proofs.lemmas.CountLemmas.{ones_before-add-zeros_before}
use Rattle.bitm.proofs.queries.Rank.rank0.Goals as goal

pub overflow_sub-result : goal.overflow_sub-result
overflow_sub-result g c =
    omega (arith, c.rank.ensures, ones_before-add-zeros_before (g.Self.HasBits.bits c.args.self.now) c.args.index (omega (arith, c.requires)))

pub returns : goal.returns
returns g c =
    omega (arith, c.rank.ensures, ones_before-add-zeros_before (g.Self.HasBits.bits c.args.self.now) c.args.index (omega (arith, c.requires)))
