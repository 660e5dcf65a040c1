use Rattle.tree_block.specs.Words.{words_in}
use Rattle.tree_block.proofs.CountLemmas.{IsCounting}
use Rattle.tree_block.proofs.words.levels.count_word.Given as goal

-- its nodes on the levels so far are counted
abbrev pub invariant-loop-depth : goal.invariant-loop-depth
invariant-loop-depth l = IsCounting (words_in l.bytes l.starts) l.levels l.j l.depth
