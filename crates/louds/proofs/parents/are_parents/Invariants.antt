use Rattle.std.proofs.Common.{◌≡◌, ℕ, ◌+◌, ◌<◌, ◌≤◌, get_or}
use Rattle.louds.proofs.parents.are_parents.Given as goal

-- so far each parent is before its child, and none is less than the one before
abbrev pub invariant-loop-i : goal.invariant-loop-i
invariant-loop-i l = record {
  last : (v : ℕ) → v + 1 ≡ l.i → l.last ≡ get_or l.parents v 0;
  least : l.i ≡ 0 → l.last ≡ 0;
  before : (v : ℕ) → v < l.i → get_or l.parents v 0 ≤ v;
  rising : (v : ℕ) → v + 1 < l.i → get_or l.parents v 0 ≤ get_or l.parents (v + 1) 0;
}
