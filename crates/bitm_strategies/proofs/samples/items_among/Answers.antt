-- What is no one is a zero.
use Rattle.std.proofs.Common.{length, sym, ◌∙◌, arith}
use Rattle.bit_lists.proofs.lemmas.CountLemmas.{ones_before-add-zeros_before}
use Rattle.bitm_strategies.proofs.lemmas.MadeLemmas.{items_zero, items_other}
use Rattle.bitm_strategies.proofs.samples.items_among.Goals as goal

pub returns-then-this-eq0-clause-items : goal.returns-then-this-eq0-clause-items
returns-then-this-eq0-clause-items g c b t l =
    omega (arith, items_zero b g.row.BIT c.if-this-eq0.true, ones_before-add-zeros_before b (length b) (omega arith), t, l)

pub returns-else-this-eq0-clause-items : goal.returns-else-this-eq0-clause-items
returns-else-this-eq0-clause-items g c b t l = t ∙ sym (items_other b g.row.BIT c.if-this-eq0.false)
