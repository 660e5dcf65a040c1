use Rattle.std.proofs.Common.{ℕ, ◌<◌, slice_index}
use Rattle.bitm_view.specs.Queries.{selected_by}
use Rattle.bitm_numbers_c.specs.Sparse.{Responds}
use Rattle.bitm_numbers_c.proofs.sparse_lists.respond_each.Given as goal

-- the answers so far
abbrev pub invariant-loop-at : goal.invariant-loop-at
invariant-loop-at l = (j : ℕ) → j < l.at → Responds l.query (slice_index l.numbers j) l.view (selected_by (slice_index l.out j))
