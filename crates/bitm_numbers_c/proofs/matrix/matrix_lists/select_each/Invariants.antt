use Rattle.std.proofs.Common.{◌≡◌, ℕ, ◌<◌, length, slice_index}
use Rattle.bitm_view.specs.Queries.{selected_by}
use Rattle.bitm_numbers_c.specs.Matrix.{IsIndexOfNumber}
use Rattle.bitm_numbers_c.proofs.matrix.matrix_lists.select_each.Given as goal

-- the answers so far
abbrev pub invariant-loop-at : goal.invariant-loop-at
invariant-loop-at l = record {
  len : length l.out ≡ length l.fn.out;
  indices : (j : ℕ) → j < l.at → IsIndexOfNumber (slice_index l.numbers j) (slice_index l.ks j) l.view (selected_by (slice_index l.out j));
}
