-- What the exported calls answer of bits in shards: which shard holds a position or a rank, and of the joined bits.
use Rattle.std.specs.Prelude.{◌≡◌, ℕ, ◌+◌, ◌-◌, ◌^◌, ◌<◌, Bool, List, Option, Some, None}
use Rattle.bitm_tables.specs.declared.answer.Answer.{Answer}
use Rattle.bitm_select.specs.Answers.{IsFoundFrom, IsSelected}
use Rattle.tables_view.specs.Nearest.{IsNext, IsPrevious}
use Rattle.tables_view.specs.Ranks.{IsCountWithin, IsRanked}
use Rattle.sharded_index.specs.Joined.{joined, kind_of}
use Rattle.sharded_index.specs.Prefixes.{claimed_in_all, ArePrefixes, HasLengths, IsClaimedBy, IsShardFound, Prefixes as Counts}
use Rattle.sharded_index.specs.Shards.{IfFoundHasBit, IsOfRank}
use Rattle.sharded_index.specs.declared.counts.Kind.{Kind}
use Rattle.sharded_index.specs.declared.counts.Kind.TheVariants.{Positions}
use Rattle.sharded_index.specs.declared.counts.Location.{Location}
use Rattle.bitm_abi.specs.Shards.{answer_from_c, counts_in, shard_bits, AreRightShards, HasShards}
use Rattle.bitm_abi.specs.Status.{Exported}
use Rattle.bitm_abi.specs.declared.shards.ShardLocation.{ShardLocation}
use Rattle.bitm_abi.specs.declared.shards.Shards.{Shards}

-- of a rank: a count is at most the position, over any prefix counts and tables; where they are right it is counting
pub record RanksJoined (v : Bool) (shards : Shards) (position : ℕ) (answer : Answer ℕ) : Type 0 where
  pub within : IsCountWithin (claimed_in_all Positions (counts_in shards.counts)) position answer
  pub counts : AreRightShards shards → IsRanked (joined (shard_bits shards)) v position answer

-- of a selection: a position has the bit in a shard, over any prefix counts and tables; where they are right it is counting
pub record SelectsJoined (v : Bool) (shards : Shards) (rank : ℕ) (answer : Answer ℕ) : Type 0 where
  pub bit : IfFoundHasBit v (shard_bits shards) (counts_in shards.counts) answer
  pub absent : IsOfRank (claimed_in_all (kind_of v) (counts_in shards.counts)) rank answer
  pub counts : AreRightShards shards → IsSelected (joined (shard_bits shards)) v rank answer

-- of the next bit from a position on, and of the previous one up to it: a position is there and has the bit in a shard, over
-- any prefix counts and tables; where they are right it is the nearest one
pub record NextJoined (v : Bool) (shards : Shards) (position : ℕ) (answer : Answer ℕ) : Type 0 where
  pub bit : IfFoundHasBit v (shard_bits shards) (counts_in shards.counts) answer
  pub from : IsFoundFrom position (claimed_in_all Positions (counts_in shards.counts)) answer
  pub counts : AreRightShards shards → IsNext (joined (shard_bits shards)) v position answer

pub record PreviousJoined (v : Bool) (shards : Shards) (position : ℕ) (answer : Answer ℕ) : Type 0 where
  pub bit : IfFoundHasBit v (shard_bits shards) (counts_in shards.counts) answer
  pub to : IsFoundFrom 0 (position + 1) answer
  pub counts : AreRightShards shards → IsPrevious (joined (shard_bits shards)) v position answer

-- the prefix counts claim fewer than 2^64 - 2 bits, so that no rank and no position is a code
pub record HasTellableShards (shards : Shards) : Type 0 where
  pub has : HasShards shards
  pub few : claimed_in_all Positions (counts_in shards.counts) < 2 ^ 64 - 2

-- of the shard that holds a number: what the prefix counts claim; where they are those of some bits, it is so
pub record FindsShard (of : Kind) (counts : Counts) (number : ℕ) (answer : Answer Location) : Type 0 where
  pub claimed : IsClaimedBy of counts number answer
  pub right : (bs : List (List Bool)) → ArePrefixes bs counts → IsShardFound of bs number answer

-- the same for a number of C, which may stand for no kind
abbrev pub FindAnswered : Option Kind → Counts → ℕ → ℕ → ShardLocation → ShardLocation → Type 0
FindAnswered None counts number status old new = (status ≡ 2) × (new ≡ old)
FindAnswered (Some of) counts number status old new =
    Exported (HasLengths counts) (λ answer. FindsShard of counts number (answer_from_c answer)) status old new
