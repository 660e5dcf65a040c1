-- The number that was read is that of all the words.
use Rattle.std.proofs.Common.{◌%◌, ◌^◌, bit_xor, ap, ◌∙◌, arith}
use Rattle.bit_lists.proofs.lemmas.BitsLemmas.{length-bits_of}
use Rattle.bit_lists.specs.Bits.{bits_of}
use Rattle.bit_lists.specs.Number.{with_number}
use Rattle.bit_words.proofs.lemmas.FirstLemmas.{number_first}
use Rattle.bit_words.proofs.slices.numbers_mut.xor_number_in.Goals as goal

pub returns-in-Some-clause-value : goal.returns-in-Some-clause-value
returns-in-Some-clause-value c = λ done.
    let words = c.args.words.now in
    let w = c.args.width in
    let inside = c.in-Some.ensures.0 in
    let same = number_first (bits_of words) c.args.len c.args.begin w inside.1 (omega (arith, c.requires, length-bits_of words)) in
    c.set_number_in.ensures.value done
    ∙ ap (λ n. with_number (bits_of words) c.args.begin w (bit_xor n c.args.value % 2 ^ w)) (c.in-Some.ensures.1 ∙ same)
