-- What was sealed has the sections that were written.
use Rattle.bit_lists.specs.Bits.{bits_of}
use Rattle.bitm_view.proofs.BitsBlockLemmas.{block_is}
use Rattle.bitm_view.proofs.bits.building.write_block.Goals as goal

pub returns : goal.returns
returns c = block_is (bits_of c.args.words.now) c.args.len c.write_parts.new.block c.seal_bits.new.block c.seal_bits.ensures c.write_parts.ensures
