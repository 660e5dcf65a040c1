use Rattle.tree_block.specs.Levels.{next_at, AreEnds, AreOf, ArePlaced}
use Rattle.tree_block.specs.Room.{IsWhole}
use Rattle.tree_block.specs.Words.{words_in}
use Rattle.tree_block.proofs.words.placing.place_words.Given as goal

-- the nodes of the words so far are placed
abbrev pub invariant-loop-j : goal.invariant-loop-j
invariant-loop-j l = record {
  whole : IsWhole (words_in l.bytes l.starts) l.next l.labels l.parents;
  next : AreOf (next_at (words_in l.bytes l.starts)) l.next l.j;
  placed : ArePlaced (words_in l.bytes l.starts) l.labels l.parents l.j 0;
  ends : AreEnds (words_in l.bytes l.starts) l.ends l.j;
}
