use Rattle.std.proofs.Common.{◌≡◌, ◌+◌, ◌∷◌, take}
use Rattle.std.specs.List.{sum}
use Rattle.tree_block.proofs.RiseLemmas.{RiseUnder}
use Rattle.tree_block.proofs.trie.given.siblings_rise.Given as goal

-- the labels of the children of the nodes so far rise
abbrev pub invariant-loop-i : goal.invariant-loop-i
invariant-loop-i l = record {
  first : l.first ≡ 1 + sum (take l.i l.degrees);
  rise : RiseUnder l.degrees (0 ∷ l.labels) l.i;
}
