-- What was sealed has the sections that were written.
use Rattle.tree_block.proofs.BlockLemmas.{block_is}
use Rattle.tree_block.proofs.building.write_block.Goals as goal

pub returns : goal.returns
returns c = block_is c.args.degrees.now c.write_parts.new.block c.seal_tree.new.block c.requires.short c.seal_tree.ensures c.write_parts.ensures
