-- What was sealed has the sections that were written.
use Rattle.sequence_block.proofs.BlockLemmas.{block_is}
use Rattle.sequence_block.proofs.building.write_block.Goals as goal

pub returns : goal.returns
returns c = block_is c.args.kind c.args.b c.args.items.now c.write_parts.new.block c.seal_sequence.new.block c.seal_sequence.ensures c.write_parts.ensures
