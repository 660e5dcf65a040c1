-- One more item.
use Rattle.std.proofs.Common.{◌∙◌, slice_index, arith}
use Rattle.std.proofs.lemmas.List.{length-set}
use Rattle.bit_words.proofs.lemmas.PositionLemmas.{placed_more}
use Rattle.bitm_view.specs.Queries.{selected_by}
use Rattle.bitm_numbers_c.specs.Matrix.{IsIndexOfNumber}
use Rattle.bitm_numbers_c.proofs.matrix.matrix_lists.select_each.Goals as goal

pub loop-at-preserved : goal.loop-at-preserved
loop-at-preserved c =
    let i = c.loop-at.invariant in
    record {
      len = length-set c.loop-at.out c.loop-at.at _ ∙ i.len;
      indices =
          placed_more (λ j n. IsIndexOfNumber (slice_index c.args.numbers.now j) (slice_index c.args.ks.now j) c.args.view.now (selected_by n)) c.loop-at.out
          c.loop-at.at c.index_code.result i.indices (omega (arith, c.loop-at-test.true, c.loop-at.auto.at-end, i.len, c.requires.room)) c.index_code.ensures;
    }
