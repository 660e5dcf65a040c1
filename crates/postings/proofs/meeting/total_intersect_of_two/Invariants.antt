use Rattle.std.proofs.Common.{◌≡◌, ◌+◌, ◌-◌, ◌≤◌, ℕ, List, length}
use Rattle.bit_lists.specs.Kept.{IsKeptFrom}
use Rattle.elias_fano.specs.SequenceParts.{Holds}
use Rattle.postings.specs.Pair.{pair_from, IsBlockOf}
use Rattle.postings.specs.Shared.{IsMeeting}
use Rattle.postings.proofs.meeting.total_intersect_of_two.Given as goal

-- what was written is shared by the numbers before those that are left in the blocks and after them
abbrev pub invariant-loop-out : goal.invariant-loop-out
invariant-loop-out l = record {
  one : l.stand.one ≤ l.first.len;
  other : l.stand.other ≤ l.second.len;
  one_room : (length l.first.numbers ≡ 32) × (l.first.len ≤ 32);
  other_room : (length l.second.numbers ≡ 32) × (l.second.len ≤ 32);
  one_within : l.first.from + l.first.len ≤ l.one.len;
  other_within : l.second.from + l.second.len ≤ l.other.len;
  room : l.stand.count ≤ length l.fn.out;
  rest : IsKeptFrom l.stand.count l.fn.out l.out;
  one_block : (xs : List ℕ) → Holds xs l.one → IsBlockOf xs l.first.from l.first.len l.first.numbers;
  other_block : (ys : List ℕ) → Holds ys l.other → IsBlockOf ys l.second.from l.second.len l.second.numbers;
  meets : (xs ys : List ℕ) → Holds xs l.one → Holds ys l.other
      → IsMeeting (pair_from xs l.one_at ys l.other_at) l.from l.stand.count l.out
      (pair_from xs (l.first.from + l.stand.one) ys (l.second.from + l.stand.other)) l.stand.low;
}

-- each turn that goes on reads numbers
abbrev pub decreases-loop-out : goal.decreases-loop-out
decreases-loop-out l = l.one.len - (l.first.from + l.first.len) + (l.other.len - (l.second.from + l.second.len))
