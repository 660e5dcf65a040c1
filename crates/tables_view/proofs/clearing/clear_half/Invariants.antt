use Rattle.std.proofs.Common.{◌≡◌, ℕ, ◌-◌, ◌%◌, ◌<◌, ◌≤◌, length, slice_index}
use Rattle.tables_view.proofs.clearing.clear_half.Given as goal

-- zeros so far, and no other word is another number
abbrev pub invariant-loop-at : goal.invariant-loop-at
invariant-loop-at l = record {
  from : l.first ≤ l.at;
  even : l.at % 2 ≡ l.first % 2;
  zeros : (j : ℕ) → l.first ≤ j → j % 2 ≡ l.first % 2 → j < l.at → slice_index l.words j ≡ 0;
  below : (j : ℕ) → j < l.first → slice_index l.words j ≡ slice_index l.fn.words j;
  kept : (j : ℕ) → slice_index l.fn.words j ≡ 0 → slice_index l.words j ≡ 0;
}

abbrev pub decreases-loop-at : goal.decreases-loop-at
decreases-loop-at l = length l.initial.words - l.at
