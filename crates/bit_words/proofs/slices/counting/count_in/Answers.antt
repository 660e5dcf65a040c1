-- None is before the first, and the range ends where the bits do.
use Rattle.std.proofs.Common.{ap, arith}
use Rattle.std.proofs.lemmas.List.{length-take-le}
use Rattle.bit_lists.proofs.lemmas.BitsLemmas.{length-bits_of}
use Rattle.bit_lists.proofs.lemmas.CountLemmas.{count_before-none}
use Rattle.bit_lists.specs.Bits.{bits_of}
use Rattle.bit_lists.specs.Count.{count_before}
use Rattle.bit_words.specs.First.{first_bits}
use Rattle.bit_words.proofs.slices.counting.count_in.Goals as goal

pub returns : goal.returns
returns c =
    let words = c.args.words.now in
    let b = first_bits words c.args.len in
    let long = length-take-le c.args.len (bits_of words) (omega (arith, c.requires.len, length-bits_of words)) in
    omega (arith, c.count_range_in.ensures, count_before-none b c.args.one, ap (count_before b c.args.one) long)
