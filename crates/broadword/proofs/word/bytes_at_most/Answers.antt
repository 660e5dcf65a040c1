-- No byte borrows, and a byte keeps its highest bit exactly where it was at most r.
use Rattle.std.proofs.Common.{◌-◌, ap, bit_and, count_ones, ◌∙◌, arith}
use Rattle.broadword.proofs.lemmas.AtMostLemmas.{no_borrow, highest_counted}
use Rattle.broadword.proofs.lemmas.LeBytesLemmas.{small_low, at_most_le}
use Rattle.broadword.proofs.word.bytes_at_most.Goals as goal

pub overflow_sub-kept : goal.overflow_sub-kept
overflow_sub-kept c =
    let less = no_borrow c.args.sums c.args.r c.ranges.sums.fits (small_low c.args.sums c.requires.small) c.requires.below in
    omega (arith, less, c.bounds.ensures)

pub returns : goal.returns
returns c =
    let counted = highest_counted c.args.sums c.args.r c.ranges.sums.fits (small_low c.args.sums c.requires.small) c.requires.below in
    at_most_le c.args.sums c.args.r _ (ap (λ b. count_ones (bit_and (b - c.args.sums) 0x8080808080808080)) c.bounds.ensures ∙ counted)
