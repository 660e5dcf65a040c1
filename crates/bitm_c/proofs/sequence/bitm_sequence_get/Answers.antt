-- What is answered is reported.
use Rattle.bitm_c.specs.Sequence.{IsNumber}
use Rattle.bitm_abi.proofs.ClaimedLemmas.{claimed}
use Rattle.bitm_c.proofs.sequence.bitm_sequence_get.Goals as goal

pub returns-in-Some : goal.returns-in-Some
returns-in-Some c =
    claimed (IsNumber c.args.index) _ _ c.in-Some.ensures.1 _ c.in-Some.ensures.0 c.report.result c.args.out.now c.report.new.out _ c.report.ensures
    (record { inside = c.get.ensures.inside; counts = c.get.ensures.answer })
