use Rattle.std.proofs.Common.{◌≡◌, ℕ, ◌-◌, ◌%◌, ◌^◌, ◌<◌, ◌≤◌, length, slice_index}
use Rattle.perfect_hash.proofs.many.none_half.Given as goal

-- no answer so far, and no other position is another
abbrev pub invariant-loop-at : goal.invariant-loop-at
invariant-loop-at l = record {
  from : l.first ≤ l.at;
  even : l.at % 2 ≡ l.first % 2;
  none : (j : ℕ) → l.first ≤ j → j % 2 ≡ l.first % 2 → j < l.at → j < length l.fn.positions → slice_index l.positions j ≡ 2 ^ 64 - 1;
  kept : (j : ℕ) → slice_index l.fn.positions j ≡ 2 ^ 64 - 1 → slice_index l.positions j ≡ 2 ^ 64 - 1;
}

abbrev pub decreases-loop-at : goal.decreases-loop-at
decreases-loop-at l = length l.initial.positions - l.at
