-- A number below 2^64 has as few digits above its low ones.
use Rattle.std.proofs.Common.{◌≡◌, ◌-◌, ◌*◌, ◌/◌, ◌^◌, ◌<◌, ◌≤◌, ℕ, ap, ◌∙◌, arith}
use Rattle.std.proofs.lemmas.Nat.{pow_pos}
use Rattle.std.proofs.lemmas.Nat.Bits.{ones_shr}
use Rattle.bit_lists.proofs.lemmas.BitsLemmas.{length-bits_of}
use Rattle.bit_lists.proofs.lemmas.NumberLemmas.{number_at-lt}
use Rattle.bit_lists.specs.Bits.{bits_of}
use Rattle.elias_fano_view.proofs.CheckLemmas.{joined-fits, joined-small}
use Rattle.elias_fano_view.proofs.checking.number_of.Goals as goal

-- what stands above w digits of a number below 2^64
most_above : (w : ℕ) → w ≤ 63 → (2 ^ 64 - 1) / 2 ^ w ≡ 2 ^ (64 - w) - 1
most_above w narrow = ones_shr 64 w (omega (arith, narrow))

pub returns-then-above-width-clause-number : goal.returns-then-above-width-clause-number
returns-then-above-width-clause-number c = λ fits.
    let w = c.args.low.now.width in
    let a = c.args.position - c.args.at in
    let words = c.args.low.now.words in
    let low = number_at-lt (bits_of words) (c.args.at * w) w (omega (arith, length-bits_of words, c.requires.fragment.inside)) in
    let small = joined-small a w _ c.requires.fragment.width low fits in
    let most = ap (λ k. (2 ^ 64 - 1) / 2 ^ k) c.width.ensures ∙ most_above w c.requires.fragment.width in
    omega (arith, small, most, c.if-above-width.true)

pub returns-clause-number : goal.returns-clause-number
returns-clause-number c =
    let w = c.args.low.now.width in
    let a = c.args.position - c.args.at in
    let words = c.args.low.now.words in
    let low = number_at-lt (bits_of words) (c.args.at * w) w (omega (arith, length-bits_of words, c.requires.fragment.inside)) in
    let most = ap (λ k. (2 ^ 64 - 1) / 2 ^ k) c.width.ensures ∙ most_above w c.requires.fragment.width in
    let small : a < 2 ^ (64 - w) = omega (arith, most, c.if-above-width.false, pow_pos (64 - w)) in
    let fits = joined-fits a w _ c.requires.fragment.width low small in
    (fits, c.join_digits.ensures.number fits)
