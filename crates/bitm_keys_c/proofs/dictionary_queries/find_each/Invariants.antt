use Rattle.std.proofs.Common.{ℕ, ◌<◌, slice_index}
use Rattle.bitm_view.specs.Queries.{selected_by}
use Rattle.bitm_keys_c.specs.Dictionary.{IsKeyNumber}
use Rattle.bitm_keys_c.proofs.dictionary_queries.find_each.Given as goal

-- the answers so far
abbrev pub invariant-loop-at : goal.invariant-loop-at
invariant-loop-at l = (j : ℕ) → j < l.at → IsKeyNumber (slice_index l.keys j) l.view (selected_by (slice_index l.out j))
