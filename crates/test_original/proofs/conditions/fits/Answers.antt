-- A number has at most so many digits exactly where nothing is left of it without them.
use Rattle.std.proofs.Common.{◌≡◌, ◌+◌, ◌*◌, ◌/◌, ◌^◌, ◌<◌, arith}
use Rattle.std.proofs.Math.Nat.{lt-div-mul-add, div-eq_of_lt}
use Rattle.std.proofs.lemmas.Bool.{eqb-true, eq-eqb}
use Rattle.std.proofs.lemmas.Nat.{pow_pos}
use Rattle.test_original.proofs.conditions.fits.Goals as goal

pub returns-else-len-eq64 : goal.returns-else-len-eq64
returns-else-len-eq64 c =
    let n = c.args.number in
    let k = 2 ^ c.args.len in
    let pos : 0 < k = pow_pos c.args.len in
    let below : n < n / k * k + k = lt-div-mul-add pos in
    (λ h. let none : n / k ≡ 0 = eqb-true (n / k) 0 h in omega (arith, rw none at below), λ h. eq-eqb (n / k) 0 (div-eq_of_lt h))
