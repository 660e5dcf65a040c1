-- The rank of the position selects the next one.
use Rattle.std.proofs.Common.{map}
use Rattle.sharded_index.specs.Joined.{joined}
use Rattle.tables_view.proofs.NearestLemmas.{next_of}
use Rattle.sharded_index.proofs.sharded.ShardedIndex.next.Goals as goal

pub returns-in-Found-clause-counts : goal.returns-in-Found-clause-counts
returns-in-Found-clause-counts g c = λ a.
    next_of (joined (map g.S.Shard.bits c.args.self.now.shards.now)) c.args.one c.args.from c.in-Found.rank c.select.result c.only_from.result
    (c.in-Found.ensures.counts a).1 (c.select.ensures.counts a) c.only_from.ensures
