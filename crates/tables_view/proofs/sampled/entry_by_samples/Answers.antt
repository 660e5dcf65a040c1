-- Samples that do not lead to the entry leave the tables as they were.
use Rattle.std.proofs.Common.{subst}
use Rattle.bitm_select.specs.Search.{IsLastFound}
use Rattle.bitm_tables.specs.Tables.{Lists}
use Rattle.tables_view.proofs.sampled.entry_by_samples.Goals as goal

pub returns-in-None-clause-last : goal.returns-in-None-clause-last
returns-in-None-clause-last g c =
    subst (λ (l : Lists). IsLastFound g.row.BIT l c.args.part c.args.rank c.last_entry.result) c.in-None.ensures.same c.last_entry.ensures.last
