use Rattle.std.proofs.Common.{◌≡◌, All, map}
use Rattle.postings.specs.Shared.{IsAsking}
use Rattle.postings.proofs.sharing.ask_others.Given as goal

-- where all lists are right, they stay so, and those that were asked have the number
abbrev pub invariant-loop-i : goal.invariant-loop-i
invariant-loop-i g l = record {
  asking : All g.C.TotalCursor.right l.fn.lists → IsAsking (map g.C.TotalCursor.left l.fn.lists) (map g.C.TotalCursor.calls l.fn.lists) l.v l.i
      (map g.C.TotalCursor.left l.lists) (map g.C.TotalCursor.calls l.lists);
  right : All g.C.TotalCursor.right l.fn.lists → All g.C.TotalCursor.right l.lists;
  sound : map g.C.TotalCursor.wrong l.lists ≡ map g.C.TotalCursor.wrong l.fn.lists;
  same : map g.C.TotalCursor.kept l.lists ≡ map g.C.TotalCursor.kept l.fn.lists;
}
