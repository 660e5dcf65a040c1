use Rattle.std.proofs.Common.{ℕ, ◌+◌, ◌<◌, length}
use Rattle.louds.specs.Above.{IsAncestor}
use Rattle.louds.proofs.tree.Louds.lowest_common_ancestor.Given as goal

-- two nodes on the ways up, which have all ancestors that both nodes have
abbrev pub invariant-loop-low : goal.invariant-loop-low
invariant-loop-low g l = record {
  low_inside : l.low < length l.self.degrees;
  high_inside : l.high < length l.self.degrees;
  low_above : IsAncestor l.self.degrees l.low l.one;
  high_above : IsAncestor l.self.degrees l.high l.other;
  common : (x : ℕ) → IsAncestor l.self.degrees x l.one → IsAncestor l.self.degrees x l.other
      → IsAncestor l.self.degrees x l.low × IsAncestor l.self.degrees x l.high;
}

abbrev pub decreases-loop-low : goal.decreases-loop-low
decreases-loop-low g l = l.low + l.high
