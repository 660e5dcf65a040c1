-- What is answered is reported.
use Rattle.bit_lists.specs.Count.{as_bit}
use Rattle.bitm_view.specs.Queries.{PreviousIn}
use Rattle.bitm_abi.proofs.ClaimedLemmas.{claimed}
use Rattle.bitm_c.proofs.selections.previous_in.Goals as goal

pub returns-in-Some : goal.returns-in-Some
returns-in-Some g c =
    claimed (λ l. PreviousIn (as_bit g.row.BIT) l c.args.from) _ _ c.in-Some.ensures.1 _ c.in-Some.ensures.0 c.report.result c.args.out.now c.report.new.out
    _ c.report.ensures (record { bit = c.previous.ensures.bit; to = c.previous.ensures.to; counts = c.previous.ensures.counts })
