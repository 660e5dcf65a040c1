use Rattle.std.proofs.Common.{ℕ, ◌<◌, slice_index}
use Rattle.bitm_abi.specs.Sequence.{IsContained}
use Rattle.bitm_abi.proofs.sequence_lists.contain_each.Given as goal

-- the answers so far
abbrev pub invariant-loop-at : goal.invariant-loop-at
invariant-loop-at l = (j : ℕ) → j < l.at → IsContained (slice_index l.values j) l.parts (slice_index l.out j)
