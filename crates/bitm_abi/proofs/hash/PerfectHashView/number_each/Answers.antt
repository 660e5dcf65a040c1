-- Each code is that of the number by the seeds, or by the bits of the hash alone.
use Rattle.std.proofs.Common.{slice_index, subst, arith}
use Rattle.bitm_view.specs.Queries.{ranked_by}
use Rattle.perfect_hash.specs.Positions.{position_by, position_in}
use Rattle.bitm_abi.specs.Hash.{HashLists, IsHashNumber}
use Rattle.bitm_abi.proofs.HashLemmas.{falls_by, falls_plain, claimed_is}
use Rattle.bitm_abi.proofs.hash.PerfectHashView.number_each.Goals as goal

pub returns-then-self-eq0 : goal.returns-then-self-eq0
returns-then-self-eq0 c j less =
    let s = c.self.inside in
    let h : HashLists = record { lists = s.tables; sizes = s.sizes.now; keys = s.keys; seeds = s.seeds.now } in
    let hash = slice_index c.args.hashes.now j in
    subst (λ (p : HashLists). IsHashNumber p hash (ranked_by (slice_index c.total_numbers_on.new.numbers j))) c.self.view_is
    (claimed_is h (λ _. position_in) (falls_plain h.seeds (omega (arith, c.if-self-eq0.true))) c.probe.result.lists c.probe.ensures.lists
    hash c.min-count.result _ c.min-count.ensures (c.total_numbers_on.ensures.numbers j less))

pub returns-else-self-eq0 : goal.returns-else-self-eq0
returns-else-self-eq0 c j less =
    let s = c.self.inside in
    let h : HashLists = record { lists = s.tables; sizes = s.sizes.now; keys = s.keys; seeds = s.seeds.now } in
    let hash = slice_index c.args.hashes.now j in
    subst (λ (p : HashLists). IsHashNumber p hash (ranked_by (slice_index c.total_numbers_on-else-self-eq0.new.numbers j))) c.self.view_is
    (claimed_is h (position_by h.seeds) (falls_by h.seeds (omega (arith, c.if-self-eq0.false))) c.probe.result.lists c.probe.ensures.lists
    hash c.min-count.result _ c.min-count.ensures (c.total_numbers_on-else-self-eq0.ensures.numbers j less))
