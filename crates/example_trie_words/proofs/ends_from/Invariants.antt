use Rattle.std.proofs.Common.{◌≤◌, length}
use Rattle.example_trie_words.proofs.ends_from.Given as goal

-- the nodes of one level
abbrev pub invariant-loop : goal.invariant-loop
invariant-loop l = record { order : l.level.start ≤ l.level.end; inside : l.level.end ≤ length l.tree.degrees }
