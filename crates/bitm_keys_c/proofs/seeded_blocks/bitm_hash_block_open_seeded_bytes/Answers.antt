-- The bytes of the block have its seeds.
use Rattle.std.proofs.Common.{◌∙◌, arith}
use Rattle.hash_block.proofs.MovedLemmas.{seeds_are_bytes}
use Rattle.bitm_keys_c.proofs.seeded_blocks.bitm_hash_block_open_seeded_bytes.Goals as goal

pub returns-else-bytes-block-clause-seeds : goal.returns-else-bytes-block-clause-seeds
returns-else-bytes-block-clause-seeds c = λ _ same.
    c.seeds_of.ensures
    ∙ seeds_are_bytes c.args.block.now c.args.bytes.now c.in-Some-Ok.ensures.view.0 (omega (arith, c.if-bytes-block.false)) same
