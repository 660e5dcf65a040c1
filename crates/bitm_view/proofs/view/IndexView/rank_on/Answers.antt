-- What was counted among all bits, of no more than the bit vector has.
use Rattle.std.proofs.Common.{ap, subst, sym, arith}
use Rattle.bitm_tables.specs.Tables.{HasSizes, Lists}
use Rattle.bitm_view.specs.Cut.{Cut, IsSizedCut}
use Rattle.tables_view.specs.Counting.{Ranks}
use Rattle.bitm_view.proofs.CodeLemmas.{rank_past}
use Rattle.bitm_view.proofs.CutLemmas.{cut_counted}
use Rattle.bitm_view.proofs.view.IndexView.rank_on.Goals as goal

pub returns-then-index-self-clause-ranks : goal.returns-then-index-self-clause-ranks
returns-then-index-self-clause-ranks g c =
    rank_past c.args.one c.args.self.now (subst (λ (x : Cut). IsSizedCut x) c.self.view_is c.self.invariant)
    c.args.index (omega (arith, c.if-index-self.true, ap (λ (x : Cut). x.len) c.self.view_is))

pub returns-clause-ranks : goal.returns-clause-ranks
returns-clause-ranks g c =
    cut_counted c.args.one c.args.self.now (subst (λ (x : Cut). IsSizedCut x) c.self.view_is c.self.invariant).within c.args.index
    (omega (arith, c.if-index-self.false, ap (λ (x : Cut). x.len) c.self.view_is)) c.ranked_on.result
    (subst (λ (l : Lists). Ranks c.args.one l c.args.index c.ranked_on.result) c.requires c.ranked_on.ensures.ranks)

pub ranked_on-requires : goal.ranked_on-requires
ranked_on-requires g c =
    subst (λ (l : Lists). HasSizes l) (sym c.requires) (subst (λ (x : Cut). IsSizedCut x) c.self.view_is c.self.invariant).sizes
