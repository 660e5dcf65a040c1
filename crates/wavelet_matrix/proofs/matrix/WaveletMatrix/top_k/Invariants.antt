use Rattle.std.proofs.Common.{◌≡◌, ◌≤◌, length}
use Rattle.std.specs.List.{zip}
use Rattle.matrix_levels.specs.Frequent.{pair_at, AreBest, IsHeapFrom}
use Rattle.wavelet_matrix.proofs.matrix.WaveletMatrix.top_k.Given as goal

-- those of the pairs that came which go first, in a heap where there is no room for more
abbrev pub invariant-loop-number : goal.invariant-loop-number
invariant-loop-number g l = record {
  same : length l.counts.items ≡ length l.numbers.items;
  few : length l.numbers.items ≤ l.k;
  heap : length l.numbers.items ≡ l.k → IsHeapFrom (pair_at l.numbers.items l.counts.items) l.k 0;
  best : AreBest l.yielded l.k (zip l.numbers.items l.counts.items);
}
