-- The first zero from where the bucket begins is the one with as many before it.
use Rattle.elias_fano.proofs.lemmas.BucketLemmas.{zero-from}
use Rattle.elias_fano.proofs.finds.ByIndexFindsEnds.end.Goals as goal

pub returns-in-Some-clause-count : goal.returns-in-Some-clause-count
returns-in-Some-clause-count g c = λ xs l h f at.
    c.count_at_zero.ensures.count xs l _ h.upper h.count
    (zero-from _ c.args.above c.args.begin c.in-Some.zero at.before c.in-Some.ensures.zero)
