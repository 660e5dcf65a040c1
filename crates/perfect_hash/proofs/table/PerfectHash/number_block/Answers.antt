-- The rank of the position that was found is the number.
use Rattle.std.proofs.Common.{ℕ, List, slice_index, sum, take, ap, ◌∙◌, arith}
use Rattle.perfect_hash.specs.Levels.{fall_in}
use Rattle.perfect_hash.specs.Many.{number_code}
use Rattle.perfect_hash.specs.Numbers.{number_in}
use Rattle.perfect_hash.proofs.lemmas.ManyLemmas.{number_is_claimed, position_inside}
use Rattle.perfect_hash.proofs.table.PerfectHash.number_block.Goals as goal

pub rank_positions-requires : goal.rank_positions-requires
rank_positions-requires g c k less some =
    let placing = c.placing-placing.result.now in
    let sizes = c.sizes-sizes.result.now in
    position_inside (fall_in (g.P.Placing.fall placing) sizes)
    (λ hash level words some. g.met.P.Placing.inside placing (sum (take level sizes)) hash level words some)
    c.args.self.now.sizes sizes c.args.self.now.bits _ (slice_index c.args.hashes.now k) _
    c.sizes-sizes.ensures.sizes c.index.ensures.bits
    (c.find_positions.ensures.claimed k (omega (arith, less, c.find_positions.auto.positions, c.requires.same_length)))
    _ c.index-2.ensures.bits some

pub returns : goal.returns
returns g c k less =
    let self = c.args.self.now in
    let by = g.P.Placing.fall in
    let placing = c.placing-placing.result.now in
    let sizes = c.sizes-sizes.result.now in
    let hash = slice_index c.args.hashes.now k in
    number_is_claimed (fall_in (by placing) sizes)
    (λ h level words some. g.met.P.Placing.inside placing (sum (take level sizes)) h level words some)
    self.sizes sizes self.bits _ hash _
    c.sizes-sizes.ensures.sizes c.index.ensures.bits (c.find_positions.ensures.claimed k less) _ _ c.index-2.ensures.bits c.sizes-sizes.ensures.value
    (c.rank_positions.ensures k (omega (arith, less, c.find_positions.auto.positions, c.requires.same_length)))
    ∙ ap (λ (s : List ℕ). number_code (number_in (fall_in (by placing) s) self.sizes self.bits hash)) c.sizes-sizes.ensures.value
    ∙ ap (λ p. number_code (number_in (fall_in (by p) self.sizes) self.sizes self.bits hash)) c.placing-placing.ensures
