-- The position with a rank is the one that is kept at that position.
use Rattle.std.proofs.Common.{◌<◌, true, length, slice_index, arith}
use Rattle.bit_lists.proofs.BitLaws.{at_most_one_picked}
use Rattle.sparse_bits.proofs.lemmas.PositionLemmas.{select_some}
use Rattle.sequence_block.specs.SparseBlock.{bits_of}
use Rattle.block_items.proofs.views.SparseViewHasItems.item.Goals as goal

pub returns-in-Found-clause-answer : goal.returns-in-Found-clause-answer
returns-in-Found-clause-answer c = λ xs h.
    let v = c.args.self.now in
    let inside : c.args.index < length xs = omega (arith, c.in-Found.ensures.within.0, h.holds.are.count) in (
      inside,
      at_most_one_picked (bits_of xs v) true c.args.index c.in-Found.position (slice_index xs c.args.index) (c.in-Found.ensures.counts xs h)
          (select_some v.len xs h.positions c.args.index inside),
    )
