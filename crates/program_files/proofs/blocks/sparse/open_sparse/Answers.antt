-- A block that is as it was written holds sparse bits.
use Rattle.sequence_block.specs.SparseBlock.{sparse_in, HoldsBits, IsSparseBlock}
use Rattle.program_files.proofs.lemmas.OpenedLemmas.{opened_holds}
use Rattle.program_files.proofs.blocks.sparse.open_sparse.Goals as goal

pub returns-then-check-clause-holds : goal.returns-then-check-clause-holds
returns-then-check-clause-holds c =
    opened_holds c.open.result (IsSparseBlock c.args.block.now) (sparse_in c.args.block.now) HoldsBits c.open.ensures (c.check.ensures.0 c.if-check.true).bits
