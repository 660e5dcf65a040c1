-- Where there are no words, each item is what a selection of its rank says.
use Rattle.std.proofs.Common.{◌∙◌, slice_index, subst, sym, arith}
use Rattle.bit_lists.specs.Count.{as_bit}
use Rattle.bitm_select.specs.Answers.{IsSelectCode}
use Rattle.bitm_tables.specs.Tables.{HasSizes, Lists}
use Rattle.bit_words.proofs.lemmas.PositionLemmas.{placed_more}
use Rattle.tables_view.proofs.lists.select_list_on.Goals as goal

pub code_on-requires : goal.code_on-requires
code_on-requires g c = subst (λ (l : Lists). HasSizes l) (sym c.loop-at.invariant.0) c.requires

pub loop-at-preserved : goal.loop-at-preserved
loop-at-preserved g c =
    let lists = g.T.TableSource.lists c.args.source.now in (
      c.code_on.ensures.same ∙ c.loop-at.invariant.0,
      placed_more (λ j n. IsSelectCode (as_bit g.row.BIT) lists (slice_index c.args.ranks.now j) n) c.loop-at.out c.loop-at.at c.code_on.result
          c.loop-at.invariant.1 (omega (arith, c.loop-at-test.true, c.loop-at.auto.out, c.if-out-ranks.false)) (subst (λ (l : Lists). IsSelectCode (as_bit g.row.BIT) l (slice_index c.args.ranks.now c.loop-at.at) c.code_on.result)
          c.loop-at.invariant.0 c.code_on.ensures.claimed),
    )
