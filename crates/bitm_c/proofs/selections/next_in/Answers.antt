-- What is answered is reported.
use Rattle.bit_lists.specs.Count.{as_bit}
use Rattle.bitm_view.specs.Queries.{NextIn}
use Rattle.bitm_abi.proofs.ClaimedLemmas.{claimed}
use Rattle.bitm_c.proofs.selections.next_in.Goals as goal

pub returns-in-Some : goal.returns-in-Some
returns-in-Some g c =
    claimed (λ l. NextIn (as_bit g.row.BIT) l c.args.from) _ _ c.in-Some.ensures.1 _ c.in-Some.ensures.0 c.report.result c.args.out.now c.report.new.out
    _ c.report.ensures (record { bit = c.next.ensures.bit; from = c.next.ensures.from; counts = c.next.ensures.counts })
