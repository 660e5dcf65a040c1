use Rattle.std.proofs.Common.{◌<◌, length}
use Rattle.example_trie_words.proofs.first_end.Given as goal

-- a node of the tree
abbrev pub invariant-loop : goal.invariant-loop
invariant-loop l = l.at < length l.tree.degrees
