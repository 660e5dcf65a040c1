-- The entry is that of the bits, and its complement that of the negated ones.
use Rattle.bitm_strategies.proofs.lemmas.MadeLemmas.{ones_at, zeros_at}
use Rattle.bitm_strategies.proofs.samples.sought_entry.Goals as goal

pub returns-then-this-eq0 : goal.returns-then-this-eq0
returns-then-this-eq0 g c b t =
    zeros_at b _ _ _ _ t c.args.at g.row.BIT c.complement_entry.result c.requires.inside c.if-this-eq0.true c.complement_entry.ensures.value

pub returns-else-this-eq0 : goal.returns-else-this-eq0
returns-else-this-eq0 g c b t = ones_at b _ _ _ _ t c.args.at g.row.BIT c.requires.inside c.if-this-eq0.false
