-- The count in a shard, and those before it.
use Rattle.std.proofs.Common.{◌≡◌, ◌<◌, Bool, List, [], length, get_or, map, ap, arith}
use Rattle.std.proofs.lemmas.List.{get_or-map}
use Rattle.std.proofs.lemmas.List.Elements.{All-get_or}
use Rattle.sharded_index.specs.Joined.{shard_at}
use Rattle.sharded_index.specs.declared.counts.Kind.TheVariants.{Positions}
use Rattle.sharded_index.proofs.LocationLemmas.{placed}
use Rattle.sharded_index.proofs.sharded.ShardedIndex.rank_at.Goals as goal

pub returns-in-Absent-clause-counts : goal.returns-in-Absent-clause-counts
returns-in-Absent-clause-counts g c = λ a.
    let B = g.S.Shard.bits in
    let index = c.args.self.now in
    let bs = map B index.shards.now in
    let location = c.args.location in
    let k = location.shard in
    let l : k < length index.shards.now = omega (arith, c.requires.claimed.inside, index.as_many) in
    let s = c.index-self-location.result in
    let at : shard_at bs k ≡ B (get_or index.shards.now k s) = get_or-map B index.shards.now k s [] l in
    let right = All-get_or g.S.Shard.right index.shards.now k s l a.tables in
    let there = placed bs index.counts a.prefixes Positions c.args.index location c.requires.claimed in
    omega (arith, c.in-Absent.ensures right, there.within, ap (λ (b : List Bool). length b) at)
