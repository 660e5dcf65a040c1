-- An index over the shards, with the prefix counts of their bits.
use Rattle.std.proofs.Common.{map, refl, arith}
use Rattle.std.proofs.lemmas.List.{length-map}
use Rattle.sharded_index.proofs.RightCountLemmas.{bits_small, counted, counted_are, ones_all_small}
use Rattle.sharded_index.specs.declared.sharded.ShardedIndex.{ShardedIndex}
use Rattle.sharded_index.proofs.laws.shards_have_index.Goals as goal

pub returns : goal.returns
returns g c tables =
    let bs = map g.S.Shard.bits c.args.shards.now in
    let index : ShardedIndex _ = record {
      counts = counted bs;
      shards = c.args.shards;
      as_many = omega (arith, (counted_are bs).bits_len, length-map c.args.shards.now g.S.Shard.bits);
    } in (
      index,
      record {
        shards_are = refl;
        are = record { prefixes = counted_are bs; tables = tables };
        bits_small = bits_small bs;
        ones_small = ones_all_small bs;
      },
    )
