use Rattle.std.proofs.Common.{◌≡◌, ◌+◌}
use Rattle.std.specs.List.{sum}
use Rattle.tree_block.specs.Levels.{count_at, AreOf}
use Rattle.tree_block.specs.Words.{added, words_in}
use Rattle.tree_block.proofs.words.levels.count_words.Given as goal

-- the nodes of the words so far are counted
abbrev pub invariant-loop-j : goal.invariant-loop-j
invariant-loop-j l = record {
  counts : AreOf (count_at (words_in l.bytes l.starts)) l.levels l.j;
  total : sum l.levels ≡ 1 + added (words_in l.bytes l.starts) l.j;
}
