use Rattle.std.proofs.Common.{◌≡◌, All, length, map, ◌-◌, ◌^◌, ◌≤◌}
use Rattle.bit_lists.specs.Kept.{IsKeptFrom}
use Rattle.postings.specs.Shared.{IsSharing}
use Rattle.postings.proofs.sharing.total_intersect.Given as goal

-- where all lists are right, they stay so, and what was written is what they share
abbrev pub invariant-loop-count : goal.invariant-loop-count
invariant-loop-count g l = record {
  sharing : All g.C.TotalCursor.right l.fn.lists → IsSharing (map g.C.TotalCursor.left l.fn.lists) (map g.C.TotalCursor.calls l.fn.lists) l.from l.count l.out
      (map g.C.TotalCursor.left l.lists) (map g.C.TotalCursor.calls l.lists) l.low;
  right : All g.C.TotalCursor.right l.fn.lists → All g.C.TotalCursor.right l.lists;
  kept : IsKeptFrom l.count l.fn.out l.out;
  room : l.count ≤ length l.fn.out;
  sound : map g.C.TotalCursor.wrong l.lists ≡ map g.C.TotalCursor.wrong l.fn.lists;
  same : map g.C.TotalCursor.kept l.lists ≡ map g.C.TotalCursor.kept l.fn.lists;
}

-- each turn begins at a greater number
abbrev pub decreases-loop-count : goal.decreases-loop-count
decreases-loop-count g l = 2 ^ 64 - l.low
