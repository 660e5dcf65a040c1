-- One number has at most 1 above its low bits.
use Rattle.std.proofs.Common.{ℕ, sym, subst, arith}
use Rattle.elias_fano.proofs.lemmas.EndsLemmas.{one-alone}
use Rattle.elias_fano.specs.Buckets.{CountsTo}
use Rattle.elias_fano.proofs.finds.BySearchFindsEnds.end.Goals as goal

pub returns-then-above-gt0-clause-count : goal.returns-then-above-gt0-clause-count
returns-then-above-gt0-clause-count g c = λ xs l h f at.
    let P : ℕ → Type 0 = CountsTo xs l c.args.above in
    subst P (sym h.count)
    (one-alone xs l c.args.above h.width (omega (arith, h.count, c.if-n-eq1.true)) (omega (arith, c.if-above-gt0.true)))
