-- The mask leaves the lowest digits.
use Rattle.std.proofs.Common.{◌≡◌, ◌-◌, ◌^◌, ap, ◌∙◌, bit_and, min, arith}
use Rattle.std.proofs.lemmas.Nat.{and_mask}
use Rattle.bitm_keys_c.proofs.hashes.prints.lowest_bits.Goals as goal

pub returns : goal.returns
returns c =
    let all : min c.args.width 64 ≡ c.args.width = omega (arith, c.requires) in
    let mask : c.n_lowest_bits_0_64.result ≡ 2 ^ c.args.width - 1 = c.n_lowest_bits_0_64.ensures ∙ ap (λ n. 2 ^ n - 1) all in
    ap (bit_and c.args.number) mask ∙ and_mask c.args.number c.args.width
