use Rattle.std.proofs.Common.{◌≡◌, ◌≤◌, All, ℕ, length, map, get_or}
use Rattle.postings.specs.Shared.{AskedAtMost, KeepsFrom}
use Rattle.postings.specs.Joined.{IsLeastFrom}
use Rattle.postings.proofs.joining.least_from.Given as goal

-- the least of the lists that were asked; the others were not asked yet
abbrev pub invariant-loop-i : goal.invariant-loop-i
invariant-loop-i g l = record {
  within : l.i ≤ length l.fn.lists;
  least : All g.C.TotalCursor.right l.fn.lists → IsLeastFrom (map g.C.TotalCursor.left l.fn.lists) l.i l.v l.least;
  keeps : All g.C.TotalCursor.right l.fn.lists → KeepsFrom (map g.C.TotalCursor.left l.fn.lists) (map g.C.TotalCursor.left l.lists) l.v;
  right : All g.C.TotalCursor.right l.fn.lists → All g.C.TotalCursor.right l.lists;
  asked : AskedAtMost (map g.C.TotalCursor.calls l.fn.lists) (map g.C.TotalCursor.calls l.lists) 1;
  fresh : (j : ℕ) → l.i ≤ j → get_or (map g.C.TotalCursor.calls l.lists) j 0 ≡ get_or (map g.C.TotalCursor.calls l.fn.lists) j 0;
  sound : map g.C.TotalCursor.wrong l.lists ≡ map g.C.TotalCursor.wrong l.fn.lists;
  same : map g.C.TotalCursor.kept l.lists ≡ map g.C.TotalCursor.kept l.fn.lists;
}
