-- All seeds are 0, and there is none past the end.
use Rattle.std.proofs.Common.{length, ⊎_elim, arith}
use Rattle.std.proofs.lemmas.Bool.{cases_lt}
use Rattle.std.proofs.lemmas.List.{get_or_past}
use Rattle.hash_buckets.proofs.level.clear_seeds.Goals as goal

pub returns-clause-zeros : goal.returns-clause-zeros
returns-clause-zeros c = λ k.
    let l = c.loop-seed in
    ⊎_elim
    (λ low. l.invariant k (omega (arith, low, c.loop-seed-test.false, l.auto.seeds)))
    (λ high. get_or_past l.seeds k 0 high)
    (cases_lt k (length l.seeds))
