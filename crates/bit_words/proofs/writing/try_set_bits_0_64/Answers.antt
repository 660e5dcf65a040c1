-- The mask keeps the lowest digits.
use Rattle.std.proofs.Common.{◌≡◌, ◌-◌, ◌^◌, min, ap, ◌∙◌, bit_and, arith}
use Rattle.std.proofs.lemmas.Nat.{and_mask}
use Rattle.bit_lists.specs.Bits.{bits_of}
use Rattle.bit_lists.specs.Number.{with_number}
use Rattle.bit_words.proofs.writing.try_set_bits_0_64.Goals as goal

pub returns-clause-value : goal.returns-clause-value
returns-clause-value c = λ _.
    let n = c.args.len in
    let least : min n 64 ≡ n = omega arith in
    let mask = c.n_lowest_bits_0_64-mask.ensures ∙ ap (λ k. 2 ^ k - 1) least in
    c.put_bits.ensures ∙ ap (with_number (bits_of c.args.words.now) c.args.begin n) (ap (bit_and c.args.v) mask ∙ and_mask c.args.v n)
