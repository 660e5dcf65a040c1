use Rattle.std.proofs.Common.{All}
use Rattle.louds.specs.Node.{IsNode}
use Rattle.tool_bench.proofs.trees.nodes_of.Given as goal

-- those so far are nodes of the tree
abbrev pub invariant-loop-number : goal.invariant-loop-number
invariant-loop-number l = All (λ n. IsNode l.tree.degrees n) l.nodes.items
