-- The iterator gives just the positions, and they are added to an empty list.
use Rattle.std.proofs.Common.{◌++◌, ap, ◌∙◌}
use Rattle.std.proofs.lemmas.Iterator.Adapters.{items_from_extend}
use Rattle.std.proofs.lemmas.Iterator.Consumers.{YieldsList-from_first}
use Rattle.bitm.specs.Bits.{bits_of}
use Rattle.bitm.specs.Count.{as_bit, bit_positions}
use Rattle.example_callers.proofs.strategies.listed.positions_of.Goals as goal

pub returns : goal.returns
returns g c =
    let all = bit_positions (as_bit g.row.BIT) 0 (bits_of c.args.content.now) in
    let given = YieldsList-from_first (λ x. x) (λ coming. coming) all c.new-bits.ensures in
    let pushed = items_from_extend c.extend.result c.extend.ensures.ran given in
    let added = rw c.in_ok-extend.was at pushed in
    added.0 ∙ ap (λ xs. xs ++ all) c.in_ok-positions.ensures.items
