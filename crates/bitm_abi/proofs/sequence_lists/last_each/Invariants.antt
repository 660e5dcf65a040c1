use Rattle.std.proofs.Common.{ℕ, ◌<◌, slice_index}
use Rattle.bitm_abi.specs.Sequence.{IsPredecessor, sought_by}
use Rattle.bitm_abi.proofs.sequence_lists.last_each.Given as goal

-- the answers so far
abbrev pub invariant-loop-at : goal.invariant-loop-at
invariant-loop-at l = (j : ℕ) → j < l.at → IsPredecessor (slice_index l.values j) l.parts (sought_by (slice_index l.out j))
