-- A masked read is the lowest `len` digits.
use Rattle.std.proofs.Common.{ap, ◌∙◌, bit_and, arith}
use Rattle.bit_lists.specs.Bits.{bits_of}
use Rattle.bit_lists.proofs.lemmas.BitsLemmas.{length-bits_of}
use Rattle.bit_lists.proofs.lemmas.NumberLemmas.{number_at-lt}
use Rattle.bit_words.proofs.reading.get_bits.Goals as goal

pub returns-clause-value : goal.returns-clause-value
returns-clause-value c = ap (bit_and c.wide_bits.result) c.n_lowest_bits.ensures ∙ c.wide_bits.ensures

pub returns-clause-bound : goal.returns-clause-bound
returns-clause-bound c =
    let words = c.args.words.now in
    let e = number_at-lt (bits_of words) c.args.begin c.args.len (omega (arith, length-bits_of words, c.requires.in_range.1)) in
    omega (arith, returns-clause-value c, e)
