-- One seed is written, and the others stay.
use Rattle.hash_block.proofs.SeedLemmas.{seed_beside, seed_written}
use Rattle.hash_block.proofs.seeded.packed.set_seed.Goals as goal

pub returns-clause-written : goal.returns-clause-written
returns-clause-written c = seed_written c.args.words.now c.set_fragment.new.words c.args.k c.args.seed c.requires.inside c.ranges.seed.fits c.set_fragment.ensures

pub returns-clause-beside : goal.returns-clause-beside
returns-clause-beside c = λ i other. seed_beside c.args.words.now c.set_fragment.new.words c.args.k c.args.seed i c.requires.inside other c.set_fragment.ensures
