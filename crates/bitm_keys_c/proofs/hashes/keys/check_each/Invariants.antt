use Rattle.std.proofs.Common.{◌≡◌, ℕ, ◌<◌, ◌≤◌, length, slice_index}
use Rattle.bitm_view.specs.Queries.{ranked_by}
use Rattle.bitm_keys_c.specs.Prints.{IsChecked}
use Rattle.bitm_keys_c.proofs.hashes.keys.check_each.Given as goal

-- the numbers so far are checked, and those to come are as they were
abbrev pub invariant-loop-at : goal.invariant-loop-at
invariant-loop-at l = record {
  long : length l.numbers ≡ length l.initial.numbers;
  checked : (j : ℕ) → j < l.at → IsChecked l.prints l.width (slice_index l.key_prints j) (ranked_by (slice_index l.initial.numbers j)) (ranked_by (slice_index l.numbers j));
  kept : (j : ℕ) → l.at ≤ j → slice_index l.numbers j ≡ slice_index l.initial.numbers j;
}
