-- What was sealed has the sections that were written.
use Rattle.std.proofs.Common.{refl, sym}
use Rattle.hash_block.specs.Numbered.{key_number}
use Rattle.hash_block.proofs.BlockLemmas.{dictionary_is}
use Rattle.hash_block.proofs.keyed.write_dictionary.Goals as goal

pub returns : goal.returns
returns c =
    let words = c.args.words.now in
    let sizes = c.args.sizes.now in
    let seed = c.args.seed in
    dictionary_is words sizes seed (key_number words sizes seed) c.args.keys.now c.write_key_parts.new.block c.seal_dictionary.new.block
    c.seal_dictionary.ensures c.write_key_parts.ensures.stands c.requires.holds.levels (sym c.requires.numbers.ones) c.requires.numbers.perfect (λ _. refl)
