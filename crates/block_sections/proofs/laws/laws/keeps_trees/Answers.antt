use Rattle.block_sections.proofs.KeptTrees.{keeps_tree}
use Rattle.block_sections.proofs.laws.laws.keeps_trees.Goals as goal

pub returns : goal.returns
returns c = λ block added words new free is. keeps_tree block added words new is free
