use Rattle.std.proofs.Common.{◌≡◌, ◌-◌, ◌^◌, length, slice_range}
use Rattle.matrix_levels.specs.Frequent.{pair_at, IsHeapFrom}
use Rattle.matrix_block.specs.Block.{items_in, HoldsMatrix}
use Rattle.matrix_block.specs.RangeLists.{AreNarrow, AreTallyCounts}
use Rattle.matrix_block.proofs.FrequentLemmas.{AreKept}
use Rattle.matrix_block.proofs.matrix.MatrixView.top_k.Given as goal

-- the most frequent numbers so far, in a heap where there is no room for more
abbrev pub invariant-loop-less : goal.invariant-loop-less
invariant-loop-less l = record {
  numbers : AreNarrow l.self.levels.width l.kept l.fn.numbers l.numbers;
  counts : AreTallyCounts (l.end - l.start) l.kept l.fn.counts l.counts;
  heap : l.kept ≡ length l.numbers → IsHeapFrom (pair_at l.numbers l.counts) (length l.numbers) 0;
  right : HoldsMatrix l.self
      → AreKept (slice_range (items_in l.self) l.start l.end) (2 ^ l.self.levels.width) l.less l.kept l.numbers l.counts;
}

abbrev pub decreases-loop-less : goal.decreases-loop-less
decreases-loop-less l = l.end - l.start - l.less
