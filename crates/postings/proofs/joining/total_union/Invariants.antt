use Rattle.std.proofs.Common.{◌≡◌, All, length, map, ◌-◌, ◌≤◌}
use Rattle.bit_lists.specs.Kept.{IsKeptFrom}
use Rattle.postings.specs.Shared.{AskedAtMost}
use Rattle.postings.specs.Joined.{IsJoining}
use Rattle.postings.proofs.joining.total_union.Given as goal

-- where all lists are right, they stay so, and what was written are their numbers
abbrev pub invariant-loop-count : goal.invariant-loop-count
invariant-loop-count g l = record {
  joining : All g.C.TotalCursor.right l.fn.lists → IsJoining (map g.C.TotalCursor.left l.fn.lists) l.from l.count l.out
      (map g.C.TotalCursor.left l.lists) l.low;
  right : All g.C.TotalCursor.right l.fn.lists → All g.C.TotalCursor.right l.lists;
  asked : AskedAtMost (map g.C.TotalCursor.calls l.fn.lists) (map g.C.TotalCursor.calls l.lists) l.count;
  rest : IsKeptFrom l.count l.fn.out l.out;
  room : l.count ≤ length l.fn.out;
  sound : map g.C.TotalCursor.wrong l.lists ≡ map g.C.TotalCursor.wrong l.fn.lists;
  same : map g.C.TotalCursor.kept l.lists ≡ map g.C.TotalCursor.kept l.fn.lists;
}

-- each turn writes a number
abbrev pub decreases-loop-count : goal.decreases-loop-count
decreases-loop-count g l = length l.fn.out - l.count
