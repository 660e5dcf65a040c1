-- Where no error is answered, the block can hold the bits.
use Rattle.std.proofs.Common.{refl}
use Rattle.bitm_c.proofs.IndexLemmas.{can_hold}
use Rattle.bitm_c.proofs.index_blocks.bitm_index_block_build.Goals as goal

pub returns-in-Ok-clause-ok : goal.returns-in-Ok-clause-ok
returns-in-Ok-clause-ok c =
    let e = c.in-Ok.ensures in
    ((λ _. can_hold _ c.args.bits_len c.args.words.now c.args.block.now e.too_long.1 e.too_few.1 e.wrong_length.1), (λ _. refl))
