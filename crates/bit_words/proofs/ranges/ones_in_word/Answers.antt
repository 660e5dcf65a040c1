-- The ones of a word up to a digit are those of what the mask leaves.
use Rattle.std.proofs.Common.{◌≡◌, ◌+◌, ◌*◌, ◌/◌, ◌%◌, count_ones, slice_index, bit_and, ap, sym, ◌∙◌, arith}
use Rattle.std.proofs.lemmas.Nat.{and_mask}
use Rattle.bit_lists.proofs.lemmas.CountLemmas.{ones_before-bits_of_in_word}
use Rattle.bit_lists.specs.Bits.{bits_of}
use Rattle.bit_lists.specs.Count.{ones_before}
use Rattle.bit_words.proofs.ranges.ones_in_word.Goals as goal

pub returns : goal.returns
returns c =
    let words = c.args.words.now in
    let q = c.args.position / 64 in
    let w = slice_index words q in
    let split : c.args.position ≡ 64 * q + c.args.position % 64 = omega arith in
    let kept = ap (bit_and w) c.n_lowest_bits.ensures ∙ and_mask w (c.args.position % 64) in
    ap (ones_before (bits_of words)) split
    ∙ ones_before-bits_of_in_word words q (omega (arith, c.requires, c.if-offset-eq0.false)) (c.args.position % 64) (omega arith)
    ∙ ap (λ n. ones_before (bits_of words) (64 * q) + count_ones n) (sym kept)
