-- The position in a shard, and the bits before it.
use Rattle.std.proofs.Common.{◌≡◌, ◌<◌, Bool, List, [], length, get_or, map, ap, arith}
use Rattle.std.proofs.lemmas.List.{get_or-map}
use Rattle.std.proofs.lemmas.List.Elements.{All-get_or}
use Rattle.bit_lists.specs.Count.{count_of}
use Rattle.sharded_index.specs.Joined.{shard_at}
use Rattle.sharded_index.proofs.ShardedLemmas.{is_there}
use Rattle.sharded_index.proofs.sharded.ShardedIndex.select_at.Goals as goal

pub returns-in-Absent-clause-counts : goal.returns-in-Absent-clause-counts
returns-in-Absent-clause-counts g c = λ a.
    let B = g.S.Shard.bits in
    let index = c.args.self.now in
    let bs = map B index.shards.now in
    let k = c.args.location.shard in
    let l : k < length index.shards.now = omega (arith, c.requires.claimed.inside, index.as_many) in
    let s = c.index-self-location.result in
    let at : shard_at bs k ≡ B (get_or index.shards.now k s) = get_or-map B index.shards.now k s [] l in
    let right = All-get_or g.S.Shard.right index.shards.now k s l a.tables in
    let v = c.args.one in
    is_there bs index.counts a.prefixes v c.args.location c.args.rank c.requires.claimed
    (omega (arith, c.in-Absent.ensures.counts right, ap (λ (b : List Bool). count_of b v) at))
