use Rattle.std.proofs.Common.{ℕ, ◌+◌, ◌<◌, ◌≤◌, ◌∷◌, get_or}
use Rattle.tree_block.proofs.trie.given.rise_between.Given as goal

-- the labels so far are less than the next ones
abbrev pub invariant-loop-node : goal.invariant-loop-node
invariant-loop-node l =
    (v : ℕ) → l.first ≤ v → v < l.node → v + 1 < l.past → get_or (0 ∷ l.labels) v 0 < get_or (0 ∷ l.labels) (v + 1) 0
