-- The source's tables have the lengths of the view's.
use Rattle.std.proofs.Common.{subst, sym}
use Rattle.bitm_tables.specs.Tables.{HasSizes, Lists}
use Rattle.bitm_view.specs.Cut.{Cut, IsSizedCut}
use Rattle.bitm_view.proofs.view.IndexView.rank_each_on.Goals as goal

pub total_rank_many_on-requires-clause-sized : goal.total_rank_many_on-requires-clause-sized
total_rank_many_on-requires-clause-sized g c =
    subst (λ (l : Lists). HasSizes l) (sym c.requires) (subst (λ (x : Cut). IsSizedCut x) c.self.view_is c.self.invariant).sizes
