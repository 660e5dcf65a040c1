use Rattle.std.proofs.Common.{◌≡◌, ◌≤◌, ℕ, slice_index, sum, take}
use Rattle.sharded_index.proofs.building.are_prefix_sums.Given as goal

-- the sums up to a number are right
abbrev pub invariant-loop-at : goal.invariant-loop-at
invariant-loop-at l = (k : ℕ) → k ≤ l.at → slice_index l.sums k ≡ sum (take k l.numbers)
