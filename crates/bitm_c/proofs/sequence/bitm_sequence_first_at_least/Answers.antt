-- What is answered is reported.
use Rattle.bitm_c.specs.Sequence.{IsSuccessor}
use Rattle.bitm_abi.proofs.ClaimedLemmas.{claimed}
use Rattle.bitm_c.proofs.sequence.bitm_sequence_first_at_least.Goals as goal

pub returns-in-Some : goal.returns-in-Some
returns-in-Some c =
    claimed (IsSuccessor c.args.value) _ _ c.in-Some.ensures.1 _ c.in-Some.ensures.0 c.report.result c.args.out.now c.report.new.out _ c.report.ensures
    (record { inside = c.first_at_least.ensures.inside; less = c.first_at_least.ensures.claimed; counts = c.first_at_least.ensures.answer })
