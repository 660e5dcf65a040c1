use Rattle.std.proofs.Common.{◌-◌, ◌^◌, ◌≤◌, slice_range}
use Rattle.matrix_block.specs.Block.{items_in, HoldsMatrix}
use Rattle.matrix_block.specs.RangeLists.{AreRisingFrom, AreTallyCounts}
use Rattle.matrix_block.proofs.TallyLemmas.{AreSoFar}
use Rattle.matrix_block.proofs.matrix.MatrixView.distinct.Given as goal

-- the numbers so far, each with how often it is there
abbrev pub invariant-loop-less : goal.invariant-loop-less
invariant-loop-less l = record {
  order : l.start ≤ l.end;
  inside : l.end ≤ l.self.levels.len;
  numbers : AreRisingFrom l.self.levels.width l.from l.written l.fn.numbers l.numbers;
  counts : AreTallyCounts (l.end - l.start) l.written l.fn.counts l.counts;
  right : HoldsMatrix l.self
      → AreSoFar (slice_range (items_in l.self) l.start l.end) (2 ^ l.self.levels.width) l.from l.less l.written l.numbers l.counts;
}

abbrev pub decreases-loop-less : goal.decreases-loop-less
decreases-loop-less l = l.end - l.start - l.less
