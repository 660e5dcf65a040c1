use Rattle.std.proofs.Common.{◌≡◌, ℕ, ◌-◌, ◌<◌, ◌≤◌, length, slice_index}
use Rattle.bitm_view.specs.Queries.{selected_by}
use Rattle.bitm_numbers_c.specs.Matrix.{IsRankOfNumber}
use Rattle.bitm_numbers_c.proofs.matrix.matrix_lists.rank_each.Given as goal

-- the answers of the groups so far
abbrev pub invariant-loop-from : goal.invariant-loop-from
invariant-loop-from l = record {
  inside : l.from ≤ length l.numbers;
  len : length l.out ≡ length l.fn.out;
  ranks : (j : ℕ) → j < l.from → IsRankOfNumber (slice_index l.numbers j) (slice_index l.indices j) l.view (selected_by (slice_index l.out j));
}

abbrev pub decreases-loop-from : goal.decreases-loop-from
decreases-loop-from l = length l.numbers - l.from
