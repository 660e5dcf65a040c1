-- Numbers of one width are the same where their bits are.
use Rattle.std.proofs.Common.{arith}
use Rattle.bit_lists.proofs.lemmas.BitsLemmas.{length-bits_of}
use Rattle.bit_lists.specs.Bits.{bits_of}
use Rattle.bit_words.proofs.lemmas.SameLemmas.{decided_same}
use Rattle.bit_words.proofs.slices.equality.are_equal_bits.Goals as goal

pub returns-else-width-eq0 : goal.returns-else-width-eq0
returns-else-width-eq0 c =
    decided_same (bits_of c.args.a.now) (bits_of c.args.b.now) c.args.a_begin c.args.b_begin c.args.width _ _
    (omega (arith, c.requires.a_inside, length-bits_of c.args.a.now)) (omega (arith, c.requires.b_inside, length-bits_of c.args.b.now))
    c.get_bits.ensures.value c.get_bits-else-width-eq0.ensures.value
