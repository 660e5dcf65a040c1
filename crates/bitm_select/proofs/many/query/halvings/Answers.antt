-- A halving that is needed is one of few where the entries are few.
use Rattle.std.proofs.Common.{◌^◌, ◌≤◌, arith, inl, inr}
use Rattle.std.proofs.Math.Pow.{pow_mono}
use Rattle.std.proofs.lemmas.Bool.{cases_lt}
use Rattle.bitm_select.proofs.many.query.halvings.Goals as goal

pub loop-size-preserved : goal.loop-size-preserved
loop-size-preserved c =
    let size = c.loop-size.size in
    record {
      most = omega (arith, c.loop-size-test.true);
      least =
          λ few.
          elim (cases_lt size 18) [
            | inl below ↦ omega (arith, below)
            | inr over ↦
                let long : 2 ^ 18 ≤ 2 ^ size = pow_mono over in
                let small : 2 ^ size ≤ 2 ^ 20 = let le : size ≤ 20 = omega (arith, c.loop-size-test.true) in pow_mono le in
                absurd (omega (arith, long, small, few, c.if-size-entries.true))
          ];
    }
