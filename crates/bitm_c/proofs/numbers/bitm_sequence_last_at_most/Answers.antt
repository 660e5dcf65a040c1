-- What is answered is reported.
use Rattle.bitm_abi.proofs.ClaimedLemmas.{claimed}
use Rattle.bitm_abi.specs.Sequence.{IsPredecessor}
use Rattle.bitm_c.proofs.numbers.bitm_sequence_last_at_most.Goals as goal

pub returns-in-Some : goal.returns-in-Some
returns-in-Some c =
    claimed (IsPredecessor c.args.value) _ _ c.in-Some.ensures.1 _ c.in-Some.ensures.0 c.report.result c.args.out.now c.report.new.out _ c.report.ensures
    (record { inside = c.last_at_most.ensures.inside; most = c.last_at_most.ensures.claimed; counts = c.last_at_most.ensures.answer })
