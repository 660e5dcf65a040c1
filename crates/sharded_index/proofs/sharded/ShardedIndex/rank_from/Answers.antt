-- The count in a shard, and those before it.
use Rattle.std.proofs.Common.{◌≡◌, ◌+◌, ◌^◌, ◌<◌, ℕ, map, ap, ◌∙◌, subst, arith}
use Rattle.std.specs.Option.{SomeIff}
use Rattle.sharded_index.specs.Joined.{joined, kind_of}
use Rattle.sharded_index.specs.Prefixes.{claimed}
use Rattle.sharded_index.specs.declared.counts.Kind.{Kind}
use Rattle.sharded_index.proofs.ShardedLemmas.{count_is, index_inside, ranked}
use Rattle.sharded_index.proofs.sharded.ShardedIndex.rank_from.Goals as goal

pub returns-clause-counts : goal.returns-clause-counts
returns-clause-counts g c = λ a.
    let index = c.args.self.now in
    let bs = map g.S.Shard.bits index.shards.now in
    let location = c.args.location in
    let v = c.args.one in
    let n = c.args.rank in
    let before : c.before-before.result ≡ claimed (kind_of v) index.counts location.shard =
    c.before-before.ensures.claimed ∙ ap (λ (of : Kind). claimed of index.counts location.shard) c.rank_kind.ensures in
    let sum = subst (λ (m : ℕ). SomeIff c.checked_add.result (m + n < 2 ^ 64) (m + n)) before c.checked_add.ensures in
    ranked (joined bs) v c.args.index _ c.checked_add.result c.at_most.result
    (index_inside bs index.counts a.prefixes v location c.args.index c.requires.claimed)
    (count_is bs index.counts a.prefixes v location c.args.index n c.requires.claimed (c.requires.ranked a))
    sum (omega arith) c.at_most.ensures
