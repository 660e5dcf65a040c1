-- One byte is written, and the others stay.
use Rattle.hash_block.proofs.ByteLemmas.{byte_beside, byte_written}
use Rattle.hash_block.proofs.strings.bytes.set_byte.Goals as goal

pub returns-clause-written : goal.returns-clause-written
returns-clause-written c = byte_written c.args.words.now c.set_fragment.new.words c.args.k c.args.byte c.requires.inside c.ranges.byte.fits c.set_fragment.ensures

pub returns-clause-beside : goal.returns-clause-beside
returns-clause-beside c = λ i other. byte_beside c.args.words.now c.set_fragment.new.words c.args.k c.args.byte i c.requires.inside other c.set_fragment.ensures
