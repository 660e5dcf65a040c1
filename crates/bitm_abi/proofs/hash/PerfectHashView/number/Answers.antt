-- What is answered is the number by the seeds, or by the bits of the hash alone.
use Rattle.std.proofs.Common.{subst, arith}
use Rattle.perfect_hash.specs.Positions.{position_by, position_in}
use Rattle.bitm_abi.specs.Hash.{HashLists, IsHashNumber}
use Rattle.bitm_abi.proofs.HashLemmas.{falls_by, falls_plain, total_is}
use Rattle.bitm_abi.proofs.hash.PerfectHashView.number.Goals as goal

pub returns-then-self-eq0 : goal.returns-then-self-eq0
returns-then-self-eq0 c =
    let s = c.self.inside in
    let h : HashLists = record { lists = s.tables; sizes = s.sizes.now; keys = s.keys; seeds = s.seeds.now } in
    let t = c.total_number_by_on.ensures in
    subst (λ (p : HashLists). IsHashNumber p c.args.hash c.total_number_by_on.result) c.self.view_is
    (total_is h (λ _. position_in) (falls_plain h.seeds (omega (arith, c.if-self-eq0.true))) c.probe.result.lists c.probe.ensures.lists c.args.hash
    c.total_number_by_on.result (record { below = t.below; number = t.number; fit = t.fit; none = t.none }))

pub returns-else-self-eq0 : goal.returns-else-self-eq0
returns-else-self-eq0 c =
    let s = c.self.inside in
    let h : HashLists = record { lists = s.tables; sizes = s.sizes.now; keys = s.keys; seeds = s.seeds.now } in
    let t = c.total_number_by_on-else-self-eq0.ensures in
    subst (λ (p : HashLists). IsHashNumber p c.args.hash c.total_number_by_on-else-self-eq0.result) c.self.view_is
    (total_is h (position_by h.seeds) (falls_by h.seeds (omega (arith, c.if-self-eq0.false))) c.probe.result.lists c.probe.ensures.lists c.args.hash
    c.total_number_by_on-else-self-eq0.result (record { below = t.below; number = t.number; fit = t.fit; none = t.none }))
