-- The ones before a part are its upper entry, and the zeros what is left of its bits.
use Rattle.std.proofs.Common.{◌≡◌, ◌+◌, ◌-◌, ◌*◌, ◌%◌, ◌^◌, ◌∙◌, ap, sym, arith}
use Rattle.bitm_tables.specs.Entry.{less}
use Rattle.bitm_select.proofs.lemmas.ClaimedLemmas.{part_ones_claimed, part_zeros_claimed}
use Rattle.bitm_select.proofs.lemmas.SoughtLemmas.{part_below, part_zeros, part_ones}
use Rattle.bitm_select.proofs.search.selecting.before_part.Goals as goal

pub returns-then-this-eq0-clause-count : goal.returns-then-this-eq0-clause-count
returns-then-this-eq0-clause-count g c = λ t.
    let u = c.upper-ones.result in
    omega (
      arith,
      part_below _ _ _ t.tables t.short c.args.part c.requires u c.upper-ones.ensures.item,
      part_zeros _ _ _ t.tables t.short c.args.part c.requires u c.upper-ones.ensures.item g.row.BIT c.if-this-eq0.true,
    )

pub returns-else-this-eq0-clause-count : goal.returns-else-this-eq0-clause-count
returns-else-this-eq0-clause-count g c = λ t.
    part_ones _ _ _ t.tables t.short c.args.part c.requires c.upper-ones.result c.upper-ones.ensures.item
    g.row.BIT c.if-this-eq0.false

pub returns-then-this-eq0-clause-claimed : goal.returns-then-this-eq0-clause-claimed
returns-then-this-eq0-clause-claimed g c =
    let lists = g.T.TableSource.lists c.args.source.now in
    let u = c.upper-ones.result in
    let wraps : (c.args.part * 2 ^ 32 % 2 ^ 64 + (2 ^ 64 - u)) % 2 ^ 64 ≡ less (c.args.part * 2 ^ 32) u = omega arith in
    wraps ∙ ap (less (c.args.part * 2 ^ 32)) c.upper-ones.ensures.item ∙ sym (part_zeros_claimed g.row.BIT lists c.args.part c.if-this-eq0.true)

pub returns-else-this-eq0-clause-claimed : goal.returns-else-this-eq0-clause-claimed
returns-else-this-eq0-clause-claimed g c =
    let lists = g.T.TableSource.lists c.args.source.now in
    c.upper-ones.ensures.item ∙ sym (part_ones_claimed g.row.BIT lists c.args.part c.if-this-eq0.false)
