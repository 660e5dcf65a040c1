-- One more answer.
use Rattle.std.proofs.Common.{◌≡◌, slice_index, subst, sym, arith, ◌∙◌}
use Rattle.std.proofs.lemmas.List.{length-set}
use Rattle.bit_words.proofs.lemmas.PositionLemmas.{placed_more}
use Rattle.bitm_tables.specs.Tables.{Lists}
use Rattle.bitm_view.specs.Queries.{selected_by}
use Rattle.levels_view.specs.Walk.{IsRankAt}
use Rattle.matrix_levels.specs.Matrix.{LevelTables}
use Rattle.bitm_numbers_c.proofs.CodeLemmas.{is_short, rank_code}
use Rattle.bitm_numbers_c.proofs.matrix.matrix_lists.rank_with.Goals as goal

pub loop-at-preserved : goal.loop-at-preserved
loop-at-preserved c =
    let view = c.args.view.now in
    let i = c.loop-at.invariant in
    let at = c.loop-at.at in
    let number = slice_index c.args.numbers.now at in
    let index = slice_index c.args.indices.now at in
    let answer = c.rank_between-answer.result in
    let claimed : IsRankAt c.parts-levels.result.0 c.parts-levels.result.1.lists number index answer =
    c.rank_between-answer.ensures c.parts-levels.result.1.lists (c.total_positions_of_many_on.ensures.each at (omega (arith, c.loop-at-test.true, c.loop-at.auto.at-end))) in
    let here : IsRankAt view.levels view.lists number index answer =
    subst (λ (m : Lists). IsRankAt view.levels m number index answer) c.parts-levels.ensures.lists
    (subst (λ (l : LevelTables). IsRankAt l c.parts-levels.result.1.lists number index answer) c.parts-levels.ensures.levels claimed) in
    let coded : selected_by c.code_of.result ≡ answer = c.code_of.ensures (rank_code _ (is_short view c.parts-levels.ensures.lengths) _ _ here.inside) in
    record {
      len = length-set c.loop-at.out at c.code_of.result ∙ i.len;
      ranks =
          placed_more (λ j n. IsRankAt view.levels view.lists (slice_index c.args.numbers.now j) (slice_index c.args.indices.now j) (selected_by n)) c.loop-at.out at
          c.code_of.result i.ranks (omega (arith, c.loop-at-test.true, c.loop-at.auto.at-end, i.len, c.requires.room))
          (subst (IsRankAt view.levels view.lists number index) (sym coded) here);
    }
