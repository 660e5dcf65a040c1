-- A number up to 2 ^ width - 1 is below 2 ^ width.
use Rattle.std.proofs.Common.{◌^◌, ◌<◌, ◌≤◌, arith}
use Rattle.std.proofs.Math.Nat.{pow-le-pow_right}
use Rattle.std.proofs.lemmas.List.{get_or_default}
use Rattle.std.proofs.lemmas.List.Elements.{AllWithin-more}
use Rattle.louds.proofs.labels.all_fit.Goals as goal

pub loop-number-preserved : goal.loop-number-preserved
loop-number-preserved c =
    let some : 2 ^ 0 ≤ 2 ^ c.args.width = pow-le-pow_right {n = 2} (omega arith) (let e : 0 ≤ c.args.width = omega arith in e) in
    AllWithin-more (λ x. x < 2 ^ c.args.width) c.args.numbers.now 0 c.loop-number.number-index c.loop-number.invariant
    (λ d. omega (
      arith,
      some,
      c.if-number-most.false,
      c.n_lowest_bits-most.ensures,
      get_or_default c.args.numbers.now c.loop-number.number-index d 0 c.loop-number-test.true,
    ))
