use Rattle.std.proofs.Common.{◌+◌, ◌-◌, ◌≤◌, ℕ, List, length}
use Rattle.std.specs.List.Sorted.{IsNonDecreasing}
use Rattle.bit_lists.specs.Kept.{IsKeptFrom}
use Rattle.postings.specs.Pair.{pair_from, IsBlockOf}
use Rattle.postings.specs.Shared.{IsMeeting}
use Rattle.postings.proofs.meeting.meet.Given as goal

-- what was written is shared by the numbers that were passed
abbrev pub invariant-loop-now : goal.invariant-loop-now
invariant-loop-now l = record {
  one : l.now.one ≤ l.one.len;
  other : l.now.other ≤ l.other.len;
  more : l.fn.stand.count ≤ l.now.count;
  room : l.now.count ≤ length l.fn.out;
  rest : IsKeptFrom l.now.count l.fn.out l.out;
  meets : (old : List (List ℕ)) → (xs ys : List ℕ) → (i j from : ℕ)
      → IsBlockOf xs i l.one.len l.one.numbers.now → IsBlockOf ys j l.other.len l.other.numbers.now
      → IsNonDecreasing xs → IsNonDecreasing ys
      → IsMeeting old from l.fn.stand.count l.fn.out (pair_from xs (i + l.fn.stand.one) ys (j + l.fn.stand.other)) l.fn.stand.low
      → IsMeeting old from l.now.count l.out (pair_from xs (i + l.now.one) ys (j + l.now.other)) l.now.low;
}

-- each turn passes a number
abbrev pub decreases-loop-now : goal.decreases-loop-now
decreases-loop-now l = l.one.len - l.now.one + (l.other.len - l.now.other)
