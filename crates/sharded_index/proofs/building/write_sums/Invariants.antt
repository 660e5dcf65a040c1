use Rattle.std.proofs.Common.{◌≡◌, ◌≤◌, ℕ, slice_index, sum, take}
use Rattle.sharded_index.proofs.building.write_sums.Given as goal

-- the sums up to a number are written
abbrev pub invariant-loop-at : goal.invariant-loop-at
invariant-loop-at l = record {
  sum_is : l.sum ≡ sum (take l.at l.numbers);
  written : (k : ℕ) → k ≤ l.at → slice_index l.out k ≡ sum (take k l.numbers);
}
