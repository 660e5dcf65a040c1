-- The 0 bit with a rank stands after the 1 bits that have no more 0 bits before them.
use Rattle.std.proofs.Common.{arith}
use Rattle.sparse_bits.proofs.lemmas.PositionLemmas.{few_ones, select0_some, zeros_count}
use Rattle.sparse_bits.proofs.counted.Ones.select0_in.Goals as goal

pub returns-then-len-ones-clause-counts : goal.returns-then-len-ones-clause-counts
returns-then-len-ones-clause-counts g c = λ xs h.
    absurd (omega (arith, few_ones c.args.self.now.len xs h.positions, c.count-ones.ensures.held xs h.holds, c.len.ensures, c.if-len-ones.true))

pub returns-then-rank-len-clause-counts : goal.returns-then-rank-len-clause-counts
returns-then-rank-len-clause-counts g c = λ xs h.
    omega (arith, zeros_count c.args.self.now.len xs h.positions, c.count-ones.ensures.held xs h.holds, c.len-2.ensures, c.if-rank-len.true)

pub returns-in-Some-clause-counts : goal.returns-in-Some-clause-counts
returns-in-Some-clause-counts g c = λ xs h.
    select0_some c.args.self.now.len xs h.positions c.args.rank c.in-Some.before (c.in-Some.ensures.parts xs h)
    (omega (arith, c.count-ones.ensures.held xs h.holds, c.len-2.ensures, c.if-rank-len.false))
