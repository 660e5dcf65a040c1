-- The walk gives the item of the positions at the rank.
use Rattle.std.proofs.lemmas.Iterator.Consumers.{nth_from_yields_List, YieldsList-from_first}
use Rattle.bitm.specs.Bits.{bits_of}
use Rattle.bitm.specs.Count.{as_bit}
use Rattle.example_callers.proofs.lemmas.ListLemmas.{IsSelect-item}
use Rattle.example_callers.proofs.strategies.scan.walk_to.Goals as goal

pub returns : goal.returns
returns g c =
    IsSelect-item (bits_of c.args.content.now) (as_bit g.row.BIT) c.args.rank c.nth.result
    (nth_from_yields_List c.nth.result c.nth.new.self c.args.rank c.nth.ensures.ran
    (YieldsList-from_first (λ x. x) (λ coming. coming) _ c.new.ensures))
