-- Ones below the end, without those below the beginning.
use Rattle.std.proofs.Common.{◌≡◌, ◌-◌, ◌*◌, min, arith}
use Rattle.bit_words.proofs.lemmas.RangeLemmas.{mask_digit}
use Rattle.bit_words.proofs.ranges.mask_of.Goals as goal

pub returns : goal.returns
returns c = λ j less.
    let high : min c.min-high.result 64 ≡ min (c.args.to - 64 * c.args.k) 64 = omega (arith, c.min-high.ensures) in
    let low : min c.min-low.result 64 ≡ min (c.args.from - 64 * c.args.k) 64 = omega (arith, c.min-low.ensures, c.saturating_sub.ensures) in
    mask_digit c.args.k c.args.from c.args.to _ _ _ _ j high low c.n_lowest_bits_0_64.ensures c.n_lowest_bits_0_64-2.ensures less
