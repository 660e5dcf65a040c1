-- The position in a shard, and the bits before it.
use Rattle.std.proofs.Common.{◌+◌, ◌^◌, ◌<◌, ℕ, map, ◌∙◌, subst, arith}
use Rattle.std.specs.Option.{SomeIff}
use Rattle.sharded_index.specs.Joined.{joined}
use Rattle.sharded_index.specs.declared.counts.Kind.TheVariants.{Positions}
use Rattle.sharded_index.proofs.LocationLemmas.{claimed_all}
use Rattle.sharded_index.proofs.ShardedLemmas.{picked_is, selected}
use Rattle.sharded_index.proofs.sharded.ShardedIndex.select_from.Goals as goal

pub returns-clause-counts : goal.returns-clause-counts
returns-clause-counts g c = λ a.
    let index = c.args.self.now in
    let bs = map g.S.Shard.bits index.shards.now in
    let v = c.args.one in
    let q = c.args.position in
    let picked = picked_is bs index.counts a.prefixes v c.args.location c.args.rank c.requires.claimed q (c.requires.picked a) in
    let sum = subst (λ (n : ℕ). SomeIff c.checked_add.result (n + q < 2 ^ 64) (n + q)) c.before-before.ensures.claimed c.checked_add.ensures in
    selected (joined bs) v c.args.rank _ c.total.result c.checked_add.result c.below.result picked
    (c.total.ensures.claimed ∙ claimed_all bs index.counts a.prefixes Positions) sum (omega arith) c.below.ensures
