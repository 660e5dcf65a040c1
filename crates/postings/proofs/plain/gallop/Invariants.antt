use Rattle.std.proofs.Common.{◌<◌, ◌≤◌, ℕ, length, get_or, ◌+◌, ◌-◌}
use Rattle.postings.proofs.plain.gallop.Given as goal

abbrev pub invariant-loop-size : goal.invariant-loop-size
invariant-loop-size l = record {
  from : l.at ≤ l.low;
  to : l.low ≤ length l.numbers;
  some : 1 ≤ l.size;
  below : (j : ℕ) → l.at ≤ j → j < l.low → get_or l.numbers j 0 < l.v;
}

abbrev pub decreases-loop-size : goal.decreases-loop-size
decreases-loop-size l = length l.numbers - l.low

abbrev pub invariant-loop-left : goal.invariant-loop-left
invariant-loop-left l = record {
  from : l.at ≤ l.low;
  to : l.low + l.left ≤ length l.numbers;
  below : (j : ℕ) → l.at ≤ j → j < l.low → get_or l.numbers j 0 < l.v;
  above : (j : ℕ) → l.low + l.left ≤ j → j < length l.numbers → l.v ≤ get_or l.numbers j 0;
}

abbrev pub decreases-loop-left : goal.decreases-loop-left
decreases-loop-left l = l.left
