-- Unmasked reads of 64 bits have these alone.
use Rattle.std.proofs.Common.{ap, ◌∙◌, arith}
use Rattle.bit_lists.proofs.lemmas.BitsLemmas.{length-bits_of}
use Rattle.bit_lists.specs.Bits.{bits_of}
use Rattle.bit_lists.specs.Number.{number_at}
use Rattle.bit_words.proofs.lemmas.FirstLemmas.{reach_of_word}
use Rattle.bit_words.proofs.lemmas.SameLemmas.{decided_same}
use Rattle.bit_words.proofs.slices.equality.are_equal_words.Goals as goal

pub returns : goal.returns
returns c =
    let a = bits_of c.args.a.now in
    let b = bits_of c.args.b.now in
    decided_same a b c.args.a_begin c.args.b_begin 64 _ _
    (omega (arith, c.requires.a_inside, length-bits_of c.args.a.now)) (omega (arith, c.requires.b_inside, length-bits_of c.args.b.now))
    (c.get_bits_unmasked.ensures ∙ ap (number_at a c.args.a_begin) (reach_of_word c.args.a_begin))
    (c.get_bits_unmasked-2.ensures ∙ ap (number_at b c.args.b_begin) (reach_of_word c.args.b_begin))
