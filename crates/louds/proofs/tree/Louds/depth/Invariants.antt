use Rattle.std.proofs.Common.{◌+◌, ◌<◌, ◌≤◌, length}
use Rattle.louds.specs.Above.{IsAbove}
use Rattle.louds.proofs.tree.Louds.depth.Given as goal

-- so many levels up
abbrev pub invariant-loop-parent : goal.invariant-loop-parent
invariant-loop-parent g l = record {
  inside : l.at < length l.self.degrees;
  few : l.levels + l.at ≤ l.node;
  above : IsAbove l.self.degrees l.levels l.at l.node;
}

abbrev pub decreases-loop-parent : goal.decreases-loop-parent
decreases-loop-parent g l = l.at
