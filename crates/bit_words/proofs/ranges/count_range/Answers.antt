-- The whole words between, with the ones of the last word before the end and without those of the
-- first before the beginning.
use Rattle.std.proofs.Common.{rules, ◌≡◌, ◌+◌, ◌-◌, ◌*◌, ◌/◌, ◌≤◌, true, ap, arith}
use Rattle.bit_lists.proofs.lemmas.BitsLemmas.{length-bits_of}
use Rattle.bit_lists.proofs.lemmas.CountLemmas.{count_before-le, ones_before-add-zeros_before, ones_before-bits_of_stretch}
use Rattle.bit_lists.specs.Bits.{bits_of}
use Rattle.bit_lists.specs.Count.{ones_before}
use Rattle.bit_words.proofs.ranges.count_range.Goals as goal
use Rattle.bit_words.proofs.ranges.count_range.Goals.{After-ones_in_word-last}

-- so many ones before the end as before the first whole word, and those counted
to_end : (c : After-ones_in_word-last)
    → ones_before (bits_of c.args.words.now) c.args.to
    ≡ ones_before (bits_of c.args.words.now) (64 * (c.args.from / 64)) + (c.count_bit_ones-whole.result + c.ones_in_word-last.result)
to_end c =
    let words = c.args.words.now in
    let a = c.args.from / 64 in
    let n = c.args.to / 64 - a in
    let order : a ≤ c.args.to / 64 = omega (arith, c.requires.order) in
    let whole = ones_before-bits_of_stretch words a n (omega (arith, order, c.requires.inside)) (λ k. search rules) in
    let turn : 64 * (a + n) ≡ 64 * (c.args.to / 64) = omega (arith, order) in
    omega (arith, whole, ap (ones_before (bits_of words)) turn, c.count_bit_ones-whole.ensures, c.ones_in_word-last.ensures)

pub overflow_add-result : goal.overflow_add-result
overflow_add-result c =
    let d = (goal.at.overflow_add-result c).After-ones_in_word-last in
    let b = bits_of c.args.words.now in
    let few = ones_before-add-zeros_before b c.args.to (omega (arith, c.requires.inside, length-bits_of c.args.words.now)) in
    record { fits = omega (arith, to_end d, few, c.ranges.to.fits) }

pub overflow_sub-result : goal.overflow_sub-result
overflow_sub-result c =
    let d = (goal.at.overflow_sub-result c).After-ones_in_word-last in
    let b = bits_of c.args.words.now in
    omega (arith, to_end d, c.ones_in_word.ensures, count_before-le b true c.args.from c.args.to c.requires.order)

pub returns : goal.returns
returns c =
    let d = (goal.at.returns c).After-ones_in_word-last in
    omega (arith, to_end d, c.ones_in_word.ensures)
