-- Levels that leave no hash number the keys.
use Rattle.std.proofs.Common.{take}
use Rattle.std.specs.List.{sum}
use Rattle.perfect_hash.specs.Levels.{fall_in}
use Rattle.perfect_hash.proofs.lemmas.KeyLemmas.{are_levels}
use Rattle.perfect_hash.proofs.levels.building.Levels.build_by.Goals as goal

pub returns-clause-levels : goal.returns-clause-levels
returns-clause-levels g c =
    let placing = c.in_ok-levels.levels.placing in
    let sizes = c.in_ok-levels.levels.sizes.items in
    are_levels (fall_in (g.P.Placing.fall placing) sizes)
    (λ hash level words some. g.met.P.Placing.inside placing (sum (take level sizes)) hash level words some)
    (g.H.KeyHash.hash c.args.hasher.now) c.args.keys.now c.in_ok-hashes.hashes.items sizes c.in_ok-levels.levels.words.items
    c.in_ok-hashes.ensures c.in_ok-levels.ensures.leave c.in_ok-levels.ensures.few c.in_ok-levels.ensures.short
