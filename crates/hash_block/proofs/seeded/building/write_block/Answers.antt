-- What was sealed has the sections that were written.
use Rattle.hash_block.proofs.SeededBlockLemmas.{block_is}
use Rattle.hash_block.proofs.seeded.building.write_block.Goals as goal

pub returns : goal.returns
returns c =
    block_is c.args.words.now c.args.seeds.now c.args.sizes.now c.args.seed c.write_parts-keys.result c.write_parts-keys.new.block c.seal_seeded.new.block
    c.seal_seeded.ensures c.write_parts-keys.ensures.stands c.requires.levels c.write_parts-keys.ensures.ones c.requires.seeds_len
