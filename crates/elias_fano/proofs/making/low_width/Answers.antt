-- No item has no low digits, and a quotient below 2^64 has at most 64 digits.
use Rattle.std.proofs.Common.{◌≡◌, zero, ◌/◌, ◌^◌, ◌<◌, ◌≤◌, ap, ◌∙◌, arith}
use Rattle.std.proofs.Math.Nat.{div-zero, div-le_self}
use Rattle.bit_lists.proofs.BitLaws.{digits_bound_powers}
use Rattle.bit_lists.specs.Bits.{digit_count}
use Rattle.elias_fano.proofs.making.low_width.Goals as goal

pub returns-then-len-eq0-clause-width : goal.returns-then-len-eq0-clause-width
returns-then-len-eq0-clause-width c =
    let u = c.args.largest in
    let none : u / c.args.len ≡ zero = ap (λ n. u / n) c.if-len-eq0.true ∙ div-zero u in
    let few : digit_count zero ≤ 0 = (digits_bound_powers 0 0).1 (let e : 0 < 2 ^ 0 = omega arith in e) in
    omega (arith, few, ap digit_count none)

pub returns-clause-most : goal.returns-clause-most
returns-clause-most c =
    let q : c.args.largest / c.args.len < 2 ^ 64 = omega (arith, c.ranges.largest.fits, div-le_self c.args.largest c.args.len) in
    omega (arith, (digits_bound_powers (c.args.largest / c.args.len) 64).1 q, c.bits_to_store.ensures, c.saturating_sub.ensures)
