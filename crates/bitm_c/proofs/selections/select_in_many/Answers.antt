-- What is answered is reported.
use Rattle.bit_lists.specs.Count.{as_bit}
use Rattle.bitm_view.specs.Queries.{SelectsIn}
use Rattle.bitm_abi.proofs.ClaimedLemmas.{claimed}
use Rattle.bitm_c.proofs.selections.select_in_many.Goals as goal

pub returns-in-Some : goal.returns-in-Some
returns-in-Some g c =
    claimed (λ l. SelectsIn (as_bit g.row.BIT) l c.args.rank) _ _ c.in-Some.ensures.1 _ c.in-Some.ensures.0 c.report.result c.args.out.now c.report.new.out
    _ c.report.ensures c.select_by.ensures
