use Rattle.std.proofs.Common.{◌≡◌, ◌+◌}
use Rattle.tree_block.specs.Words.{added, words_in}
use Rattle.tree_block.proofs.words.words.count_nodes.Given as goal

-- the root, and the nodes that the words so far add
abbrev pub invariant-loop-j : goal.invariant-loop-j
invariant-loop-j l = l.nodes ≡ 1 + added (words_in l.bytes l.starts) l.j
