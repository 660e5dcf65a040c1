-- A number of no bits changes nothing.
use Rattle.std.proofs.Common.{◌≡◌, ◌%◌, ◌^◌, ap, ◌∙◌, arith}
use Rattle.bit_lists.proofs.lemmas.BitsLemmas.{length-bits_of}
use Rattle.bit_lists.specs.Bits.{bits_of}
use Rattle.bit_words.proofs.lemmas.FirstLemmas.{nothing_written}
use Rattle.bit_words.proofs.slices.numbers_mut.set_number_in.Goals as goal

pub returns-then-width-eq0-clause-value : goal.returns-then-width-eq0-clause-value
returns-then-width-eq0-clause-value c = λ _.
    let words = c.args.words.now in
    let zero : c.args.value % 2 ^ c.args.width ≡ 0 = ap (λ w. c.args.value % 2 ^ w) c.if-width-eq0.true ∙ omega arith in
    nothing_written (bits_of words) c.args.begin c.args.width (c.args.value % 2 ^ c.args.width)
    (omega (arith, (c.is_inside.ensures.0 c.if-not-is_inside.false).1, c.requires, length-bits_of words)) c.if-width-eq0.true zero
