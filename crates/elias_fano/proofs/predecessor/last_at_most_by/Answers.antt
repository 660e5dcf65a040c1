-- The last of some numbers that are at most the value is the one before the position where they end.
use Rattle.std.proofs.Common.{◌≡◌, ℕ, ◌+◌, ◌-◌, subst, arith}
use Rattle.elias_fano.specs.SequenceParts.{parts_with}
use Rattle.elias_fano.specs.Claims.{ClaimsAtMost}
use Rattle.elias_fano.proofs.predecessor.last_at_most_by.Goals as goal

pub returns-in-Some-clause-claimed : goal.returns-in-Some-clause-claimed
returns-in-Some-clause-claimed g c = λ claims.
    let some : c.in-Some.count ≡ c.in-Some.count - 1 + 1 = omega (arith, c.in-Some.count-test) in
    let P : ℕ → Type 0 = ClaimsAtMost (parts_with c.args.n c.args.low.now (g.T.TableSource.lists c.args.source.now)) c.args.v in
    subst P some (c.in-Some.ensures.claimed claims)

pub returns-in-Some-clause-answer : goal.returns-in-Some-clause-answer
returns-in-Some-clause-answer g c = λ xs h f.
    let r = c.in-Some.ensures.reaches xs h f in
    record {
      inside = omega (arith, r.bound, c.in-Some.count-test);
      at_most = r.below (c.in-Some.count - 1) (omega (arith, c.in-Some.count-test));
      after = λ j l inside. r.above j (omega (arith, l)) inside;
    }
