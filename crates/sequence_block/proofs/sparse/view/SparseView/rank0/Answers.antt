-- The bits that are no 1 bits are 0 bits.
use Rattle.std.proofs.Common.{arith}
use Rattle.bit_lists.proofs.BitLaws.{ones_and_zeros}
use Rattle.sequence_block.specs.SparseBlock.{bits_of}
use Rattle.sequence_block.proofs.sparse.view.SparseView.rank0.Goals as goal

pub returns-in-Found-clause-counts : goal.returns-in-Found-clause-counts
returns-in-Found-clause-counts c = λ xs h.
    let is = c.in-Found.ensures.counts xs h in
    (is.0, omega (arith, is.1, ones_and_zeros (bits_of xs c.args.self.now) c.args.index is.0))
