use Rattle.std.proofs.Common.{ℕ, ◌<◌, ◌≤◌, length}
use Rattle.louds.specs.Above.{IsAncestor}
use Rattle.louds.proofs.tree.Louds.climb.Given as goal

-- a node on the way up, below which all those on it have greater numbers than the bound
abbrev pub invariant-loop-at : goal.invariant-loop-at
invariant-loop-at g l = record {
  inside : l.at < length l.self.degrees;
  lower : l.at ≤ l.node;
  above : IsAncestor l.self.degrees l.at l.node;
  first : (x : ℕ) → x ≤ l.bound → IsAncestor l.self.degrees x l.node → IsAncestor l.self.degrees x l.at;
}

abbrev pub decreases-loop-at : goal.decreases-loop-at
decreases-loop-at g l = l.at
