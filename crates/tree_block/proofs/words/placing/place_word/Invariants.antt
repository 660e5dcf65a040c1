use Rattle.tree_block.specs.Words.{words_in}
use Rattle.tree_block.proofs.PlacingLemmas.{IsPlacing}
use Rattle.tree_block.proofs.words.placing.place_word.Given as goal

-- its nodes on the levels so far are placed
abbrev pub invariant-loop-depth : goal.invariant-loop-depth
invariant-loop-depth l = IsPlacing (words_in l.bytes l.starts) l.next l.labels l.parents l.j l.depth
