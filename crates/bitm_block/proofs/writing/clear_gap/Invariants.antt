use Rattle.std.proofs.Common.{◌≡◌, ℕ, ◌<◌, slice_index}
use Rattle.bitm_block.proofs.writing.clear_gap.Given as goal

-- zeros so far
abbrev pub invariant-loop-at : goal.invariant-loop-at
invariant-loop-at l = (j : ℕ) → j < l.at → slice_index l.words j ≡ 0
