-- What is answered is reported.
use Rattle.bitm_abi.proofs.ClaimedLemmas.{claimed}
use Rattle.bitm_numbers_c.specs.Sparse.{IsPreviousIn}
use Rattle.bitm_numbers_c.proofs.sparse_queries.bitm_sparse_previous.Goals as goal

pub returns-in-Some : goal.returns-in-Some
returns-in-Some c =
    claimed (IsPreviousIn c.args.one c.args.from) _ _ c.in-Some.ensures.1 _ c.in-Some.ensures.0 c.report.result c.args.out.now c.report.new.out _ c.report.ensures
    (record { inside = c.previous.ensures.to; right = c.previous.ensures.counts })
