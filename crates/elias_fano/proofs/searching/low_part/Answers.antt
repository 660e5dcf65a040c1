-- A mask of the low digits keeps what a division leaves.
use Rattle.std.proofs.Common.{◌≡◌, ◌-◌, ◌^◌, ap, ◌∙◌, bit_and}
use Rattle.std.proofs.lemmas.Nat.{and_mask}
use Rattle.elias_fano.proofs.searching.low_part.Goals as goal

pub returns : goal.returns
returns c =
    let mask : c.n_lowest_bits.result ≡ 2 ^ c.args.low.now.width - 1 = c.n_lowest_bits.ensures ∙ ap (λ w. 2 ^ w - 1) c.width.ensures in
    ap (bit_and c.args.v) mask ∙ and_mask c.args.v c.args.low.now.width
