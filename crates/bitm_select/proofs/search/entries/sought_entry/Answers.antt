-- The entry is what the table claims, and where the tables are right that of the bits.
use Rattle.std.proofs.Common.{◌∙◌, ap, sym}
use Rattle.bitm_tables.specs.Entry.{greatest_entry, less}
use Rattle.bitm_select.proofs.lemmas.ClaimedLemmas.{claimed_is, claimed_ones, claimed_zeros}
use Rattle.bitm_select.proofs.search.entries.sought_entry.Goals as goal

pub returns-then-this-eq0-clause-claimed : goal.returns-then-this-eq0-clause-claimed
returns-then-this-eq0-clause-claimed g c =
    let lists = g.T.TableSource.lists c.args.source.now in
    c.complement_entry.ensures.claimed ∙ ap (less (greatest_entry c.args.at)) c.lower-entry.ensures.item
    ∙ sym (claimed_zeros g.row.BIT lists c.args.at c.if-this-eq0.true)

pub returns-then-this-eq0-clause-entry : goal.returns-then-this-eq0-clause-entry
returns-then-this-eq0-clause-entry g c = λ t.
    let lists = g.T.TableSource.lists c.args.source.now in
    returns-then-this-eq0-clause-claimed g c ∙ claimed_is g.row.BIT lists c.args.at t c.requires

pub returns-else-this-eq0-clause-claimed : goal.returns-else-this-eq0-clause-claimed
returns-else-this-eq0-clause-claimed g c =
    let lists = g.T.TableSource.lists c.args.source.now in
    c.lower-entry.ensures.item ∙ sym (claimed_ones g.row.BIT lists c.args.at c.if-this-eq0.false)

pub returns-else-this-eq0-clause-entry : goal.returns-else-this-eq0-clause-entry
returns-else-this-eq0-clause-entry g c = λ t.
    let lists = g.T.TableSource.lists c.args.source.now in
    returns-else-this-eq0-clause-claimed g c ∙ claimed_is g.row.BIT lists c.args.at t c.requires
