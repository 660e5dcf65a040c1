-- A tree as C passes it.
use Rattle.bitm_abi.specs.declared.tree.Tree.{Tree}
use Rattle.tree_block.specs.Block.{parts_of, TreeParts}

-- the number of nodes, and the words with their tables and hints
abbrev pub tree_parts : Tree → TreeParts
tree_parts tree = parts_of tree.len tree.words.now tree.upper.now tree.lower.now tree.hints.now
