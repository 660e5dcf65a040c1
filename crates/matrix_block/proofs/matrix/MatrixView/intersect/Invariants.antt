use Rattle.std.proofs.Common.{◌-◌, ◌^◌, ◌<◌, ◌≤◌, slice_range, take, All}
use Rattle.matrix_block.specs.Block.{items_in, HoldsMatrix}
use Rattle.matrix_block.specs.RangeLists.{AreRisingFrom}
use Rattle.matrix_block.proofs.SharedLemmas.{AreSharedSoFar}
use Rattle.matrix_block.proofs.matrix.MatrixView.intersect.Given as goal

-- the numbers so far, all less than the bound
abbrev pub invariant-loop : goal.invariant-loop
invariant-loop l = record {
  from : l.from ≤ l.bound;
  numbers : AreRisingFrom l.self.levels.width l.from l.written l.fn.numbers l.numbers;
  below : All (λ x. x < l.bound) (take l.written l.numbers);
  right : HoldsMatrix l.self
      → AreSharedSoFar (slice_range (items_in l.self) l.first.start l.first.end) (slice_range (items_in l.self) l.second.start l.second.end)
      (2 ^ l.self.levels.width) l.from l.bound (l.counter - l.first.start) l.written l.numbers;
}
