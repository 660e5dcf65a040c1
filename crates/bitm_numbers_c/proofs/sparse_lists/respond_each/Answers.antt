-- One more item.
use Rattle.std.proofs.Common.{slice_index, arith}
use Rattle.bit_words.proofs.lemmas.PositionLemmas.{placed_more}
use Rattle.bitm_view.specs.Queries.{selected_by}
use Rattle.bitm_numbers_c.specs.Sparse.{Responds}
use Rattle.bitm_numbers_c.proofs.sparse_lists.respond_each.Goals as goal

pub loop-at-preserved : goal.loop-at-preserved
loop-at-preserved c =
    placed_more (λ j n. Responds c.args.query (slice_index c.args.numbers.now j) c.args.view.now (selected_by n)) c.loop-at.out c.loop-at.at c.code_for.result
    c.loop-at.invariant (omega (arith, c.loop-at-test.true, c.loop-at.auto.at-end, c.loop-at.auto.out, c.requires.room)) c.code_for.ensures
