-- What was found among all bits, cut.
use Rattle.std.proofs.Common.{ap, subst, sym, arith}
use Rattle.bit_lists.specs.Count.{as_bit}
use Rattle.bitm_tables.specs.Tables.{HasSizes, Lists}
use Rattle.bitm_view.specs.Cut.{Cut, IsSizedCut}
use Rattle.tables_view.specs.Counting.{Selects}
use Rattle.bitm_view.proofs.view.IndexView.select_on.Goals as goal

pub search_on-requires : goal.search_on-requires
search_on-requires g c =
    subst (λ (l : Lists). HasSizes l) (sym c.requires)
    (subst (λ (x : Cut). IsSizedCut x) c.self.view_is c.self.invariant).sizes

pub returns-clause-selects : goal.returns-clause-selects
returns-clause-selects g c =
    c.cut.ensures (as_bit g.row.BIT) c.args.self.now c.args.rank (sym (ap (λ (x : Cut). x.len) c.self.view_is))
    (subst (λ (x : Cut). IsSizedCut x) c.self.view_is c.self.invariant).within
    (subst (λ (l : Lists). Selects (as_bit g.row.BIT) l c.args.rank c.search_on.result) c.requires
    (record { bit = c.search_on.ensures.bit; counts = c.search_on.ensures.answer; absent = c.search_on.ensures.none (λ e. absurd (omega (arith, e))) }))
