-- The rank of the position selects the next one.
use Rattle.sequence_block.specs.SparseBlock.{bits_of}
use Rattle.tables_view.proofs.NearestLemmas.{next_of}
use Rattle.sequence_block.proofs.sparse.view.SparseView.next.Goals as goal

pub returns-in-Found-clause-counts : goal.returns-in-Found-clause-counts
returns-in-Found-clause-counts c = λ xs h.
    next_of (bits_of xs c.args.self.now) c.args.one c.args.from c.in-Found.rank c.select_of.result c.only_from.result
    (c.in-Found.ensures.counts xs h).1 (c.select_of.ensures.counts xs h) c.only_from.ensures
