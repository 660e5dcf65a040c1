use Rattle.std.proofs.Common.{◌≡◌, ◌-◌, ◌^◌, ap, ◌∙◌, arith}
use Rattle.std.proofs.lemmas.Nat.Bits.{ones_shr}
use Rattle.bit_words.proofs.masks.n_lowest_bits_1_64.Goals as goal

pub returns : goal.returns
returns c =
    let n = c.args.count in
    let left : 64 - (64 - n) ≡ n = omega arith in
    ones_shr 64 (64 - n) (omega arith) ∙ ap (λ k. 2 ^ k - 1) left
