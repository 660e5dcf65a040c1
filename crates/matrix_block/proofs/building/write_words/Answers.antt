-- The bits are those of the block.
use Rattle.std.proofs.Common.{◌*◌, length, take, ap, ◌∙◌, arith}
use Rattle.bit_lists.specs.Bits.{bits_of}
use Rattle.matrix_levels.specs.Matrix.{matrix_words}
use Rattle.matrix_block.proofs.LevelLemmas.{words-in}
use Rattle.matrix_block.proofs.building.write_words.Goals as goal

pub returns : goal.returns
returns c =
    let n = length c.args.numbers.now in
    let w = c.args.width in
    ap (λ ws. take (w * n) (bits_of ws))
    (words-in c.split_at_mut-front.result.0.now c.write_bits.new.words c.split_at_mut-words.result.1.now c.args.at (matrix_words n w)
    c.split_at_mut-front.ensures.front_len
    (omega (arith, c.write_bits.auto.words, c.split_at_mut-words.ensures.front_len, c.of.ensures.words)))
    ∙ c.write_bits.ensures
