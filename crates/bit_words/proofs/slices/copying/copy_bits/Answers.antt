-- A number of no bits changes nothing.
use Rattle.std.proofs.Common.{arith}
use Rattle.bit_lists.proofs.lemmas.BitsLemmas.{length-bits_of}
use Rattle.bit_lists.specs.Bits.{bits_of}
use Rattle.bit_lists.specs.Number.{number_at}
use Rattle.bit_words.proofs.lemmas.FirstLemmas.{no_number, nothing_written}
use Rattle.bit_words.proofs.slices.copying.copy_bits.Goals as goal

pub returns-then-width-eq0 : goal.returns-then-width-eq0
returns-then-width-eq0 c =
    let to = c.args.to.now in
    let source = bits_of c.args.from.now in
    nothing_written (bits_of to) c.args.to_begin c.args.width (number_at source c.args.from_begin c.args.width)
    (omega (arith, c.requires.to_inside, length-bits_of to)) c.if-width-eq0.true (no_number source c.args.from_begin c.args.width c.if-width-eq0.true)
