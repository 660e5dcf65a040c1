-- The ones of a part are a difference of two counts, and the zeros what is left of its bits.
use Rattle.std.proofs.Common.{arith}
use Rattle.bitm_strategies.specs.Samples.{part_of}
use Rattle.bitm_strategies.proofs.lemmas.MadeLemmas.{begins, few_ones_in, items_other, items_zero, ones_in, zeros_in}
use Rattle.bitm_strategies.proofs.samples.items_in.Goals as goal

pub returns-then-this-eq0-clause-items : goal.returns-then-this-eq0-clause-items
returns-then-this-eq0-clause-items g c b t =
    let few = few_ones_in b _ _ _ _ t c.args.part c.requires.inside c.ones_to_end.result (c.ones_to_end.ensures b t) in
    let z = zeros_in b _ _ _ _ t c.args.part c.requires.inside c.ones_to_end.result (c.ones_to_end.ensures b t) in
    let zero = items_zero (part_of b c.args.part) g.row.BIT c.if-this-eq0.true in
    omega (arith, few, z, zero, begins b _ _ _ _ t c.args.part c.requires.inside, t.bits_are, c.saturating_sub.ensures, c.min-bits.ensures, c.min-ones.ensures)

pub returns-else-this-eq0-clause-items : goal.returns-else-this-eq0-clause-items
returns-else-this-eq0-clause-items g c b t =
    let few = few_ones_in b _ _ _ _ t c.args.part c.requires.inside c.ones_to_end.result (c.ones_to_end.ensures b t) in
    let o = ones_in b _ _ _ _ t c.args.part c.requires.inside c.ones_to_end.result (c.ones_to_end.ensures b t) in
    let other = items_other (part_of b c.args.part) g.row.BIT c.if-this-eq0.false in
    omega (arith, few, o, other, begins b _ _ _ _ t c.args.part c.requires.inside, t.bits_are, c.saturating_sub.ensures, c.min-bits.ensures, c.min-ones.ensures)
