-- The rank of all bits is that of the prefix counts.
use Rattle.std.proofs.Common.{◌≡◌, Some, length, map, refl, sym, ap, ◌∙◌, arith}
use Rattle.bit_lists.specs.Count.{count_before, count_of}
use Rattle.sharded_index.specs.Joined.{joined, kind_of}
use Rattle.sharded_index.specs.Prefixes.{claimed_in_all}
use Rattle.sharded_index.specs.declared.counts.Kind.{Kind}
use Rattle.sharded_index.specs.declared.counts.Kind.TheVariants.{Positions}
use Rattle.sharded_index.proofs.LocationLemmas.{claimed_all, number_of-kind}
use Rattle.sharded_index.proofs.ShardedLemmas.{ranked}
use Rattle.sharded_index.proofs.sharded.ShardedIndex.rank.Goals as goal

pub returns-then-index-total-clause-counts : goal.returns-then-index-total-clause-counts
returns-then-index-total-clause-counts g c = λ a.
    let index = c.args.self.now in
    let bs = map g.S.Shard.bits index.shards.now in
    let v = c.args.one in
    let n = c.total-then-index-total.result in
    let long : c.args.index ≡ length (joined bs) =
    c.if-index-total.true ∙ (c.total.ensures.claimed ∙ claimed_all bs index.counts a.prefixes Positions) in
    let all : n ≡ count_of (joined bs) v =
    c.total-then-index-total.ensures.claimed
    ∙ (ap (λ (of : Kind). claimed_in_all of index.counts) c.rank_kind.ensures
    ∙ (claimed_all bs index.counts a.prefixes (kind_of v) ∙ number_of-kind v (joined bs))) in
    ranked (joined bs) v c.args.index n (Some n) c.at_most.result (omega (arith, long))
    (ap (count_before (joined bs) v) long ∙ sym all) (omega arith, refl) (omega arith) c.at_most.ensures
