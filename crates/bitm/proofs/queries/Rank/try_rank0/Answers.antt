-- The ones before a position and the zeros before it are all that stands before it.
use Rattle.std.proofs.Common.{arith}
use Rattle.bit_lists.proofs.lemmas.CountLemmas.{ones_before-add-zeros_before}
use Rattle.bitm.proofs.queries.Rank.try_rank0.Goals as goal

pub overflow_sub-result : goal.overflow_sub-result
overflow_sub-result g c =
    let both = ones_before-add-zeros_before (g.Self.HasBits.bits c.args.self.now) c.args.index (omega (arith, c.in-Some.ensures.0)) in
    omega (arith, c.in-Some.ensures.1, both)

pub returns-in-Some : goal.returns-in-Some
returns-in-Some g c =
    let both = ones_before-add-zeros_before (g.Self.HasBits.bits c.args.self.now) c.args.index (omega (arith, c.in-Some.ensures.0)) in
    (c.in-Some.ensures.0, omega (arith, c.in-Some.ensures.1, both))
