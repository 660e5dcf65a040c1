use Rattle.louds.proofs.lemmas.ParentsLemmas.{IsCounted}
use Rattle.tree_block.proofs.words.growing.count_children.Given as goal

-- the parents so far are counted
abbrev pub invariant-loop-parent : goal.invariant-loop-parent
invariant-loop-parent l = IsCounted l.parents l.parent-index l.degrees
