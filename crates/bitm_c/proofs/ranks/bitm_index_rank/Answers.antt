-- What is answered is reported.
use Rattle.bitm_view.specs.Queries.{RanksIn}
use Rattle.bitm_abi.proofs.ClaimedLemmas.{claimed}
use Rattle.bitm_c.proofs.ranks.bitm_index_rank.Goals as goal

pub returns-in-Some : goal.returns-in-Some
returns-in-Some c =
    claimed (λ l. RanksIn c.args.one l c.args.position) _ _ c.in-Some.ensures.1 _ c.in-Some.ensures.0.0 c.report.result c.args.out.now c.report.new.out
    _ c.report.ensures (record { within = c.rank_of.ensures.within; counts = c.rank_of.ensures.counts })
