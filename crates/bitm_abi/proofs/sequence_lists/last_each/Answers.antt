-- One more item.
use Rattle.std.proofs.Common.{slice_index, arith}
use Rattle.bit_words.proofs.lemmas.PositionLemmas.{placed_more}
use Rattle.bitm_abi.specs.Sequence.{IsPredecessor, sought_by}
use Rattle.bitm_abi.proofs.sequence_lists.last_each.Goals as goal

pub loop-at-preserved : goal.loop-at-preserved
loop-at-preserved c =
    placed_more (λ j n. IsPredecessor (slice_index c.args.values.now j) c.args.parts.now (sought_by n)) c.loop-at.out c.loop-at.at c.last_code.result
    c.loop-at.invariant (omega (arith, c.loop-at-test.true, c.loop-at.auto.at-end, c.loop-at.auto.out, c.requires)) c.last_code.ensures
