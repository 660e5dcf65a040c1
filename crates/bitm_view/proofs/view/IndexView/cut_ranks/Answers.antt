-- One more rank is cut.
use Rattle.std.proofs.Common.{rules, ℕ, slice_index, refl, subst, sym, arith}
use Rattle.bit_lists.specs.Count.{as_bit}
use Rattle.bitm_select.specs.Answers.{IsRankCode}
use Rattle.bitm_view.specs.Queries.{ranked_by, RanksIn}
use Rattle.bit_words.proofs.lemmas.PositionLemmas.{placed_more}
use Rattle.bitm_view.proofs.view.IndexView.cut_ranks.Goals as goal

pub loop-at-preserved : goal.loop-at-preserved
loop-at-preserved g c =
    let i = c.loop-at.invariant in
    record {
      long = search rules;
      each =
          placed_more (λ j n. RanksIn (as_bit g.row.BIT) c.args.self.now (slice_index c.args.positions.now j) (ranked_by n)) c.loop-at.out c.loop-at.at
          c.cut_rank.result i.each (omega arith)
          (c.cut_rank.ensures (as_bit g.row.BIT) (slice_index c.args.positions.now c.loop-at.at) refl
          (subst (λ (n : ℕ). IsRankCode (as_bit g.row.BIT) c.args.self.now.lists (slice_index c.args.positions.now c.loop-at.at) n) (sym (i.rest c.loop-at.at (omega arith)))
          (c.requires.claimed c.loop-at.at (omega arith))));
      rest = search rules;
    }
