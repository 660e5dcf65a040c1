-- Shards as C passes them.
use Rattle.std.specs.Prelude.{◌≡◌, ℕ, ◌+◌, List, Bool, Option, Some, None, All, length, map, zero, suc}
use Rattle.bitm_tables.specs.declared.answer.Answer.{Answer}
use Rattle.bitm_tables.specs.declared.answer.Answer.TheVariants.{Found, Absent, Wrong}
use Rattle.bitm_view.specs.Cut.{bits_of_cut, IsSizedCut}
use Rattle.bitm_tables.specs.Tables.{HasTables}
use Rattle.bitm_abi.specs.Index.{cut_of}
use Rattle.bitm_abi.specs.declared.index.Index.{Index}
use Rattle.bitm_abi.specs.declared.shards.Prefixes.{Prefixes}
use Rattle.bitm_abi.specs.declared.shards.ShardLocation.{ShardLocation}
use Rattle.bitm_abi.specs.declared.shards.Shards.{Shards}
use Rattle.sharded_index.specs.Prefixes.{prefixes_of, ArePrefixes, HasLengths, Prefixes as Counts}
use Rattle.sharded_index.specs.declared.counts.Kind.{Kind}
use Rattle.sharded_index.specs.declared.counts.Kind.TheVariants.{Positions, Zeros, Ones}
use Rattle.sharded_index.specs.declared.counts.Location.{Location}
use Rattle.sharded_index.specs.declared.sharded.ShardedIndex.{ShardedIndex}

-- the numbers of prefix counts
abbrev pub counts_in : Prefixes → Counts
counts_in it = prefixes_of it.bits.now it.ones.now

-- the bits of an index
abbrev pub bits_in_index : Index → List Bool
bits_in_index index = bits_of_cut (cut_of index)

-- the lengths of an index are right, and its tables are those of the words
abbrev pub IsRightIndex : Index → Type 0
IsRightIndex index = IsSizedCut (cut_of index) × HasTables (cut_of index).lists

-- of each shard
abbrev pub shard_bits : Shards → List (List Bool)
shard_bits shards = map bits_in_index shards.shards.now

-- as many prefix counts of either kind, and one more than shards
pub record HasShards (shards : Shards) : Type 0 where
  pub counts : HasLengths (counts_in shards.counts)
  pub as_many : length (counts_in shards.counts).bits ≡ length shards.shards.now + 1

-- the prefix counts are those of the shards, and each shard's tables those of its words
pub record AreRightShards (shards : Shards) : Type 0 where
  pub prefixes : ArePrefixes (shard_bits shards) (counts_in shards.counts)
  pub indexes : All IsRightIndex shards.shards.now

-- what the library asks is over the numbers and indexes of the shards
pub record IsOver (shards : Shards) (index : ShardedIndex Index) : Type 0 where
  pub has : HasShards shards
  pub counts_are : index.counts ≡ counts_in shards.counts
  pub shards_are : index.shards.now ≡ shards.shards.now

-- what a number of C stands for
abbrev pub kind_in_c : ℕ → Option Kind
kind_in_c zero = Some Zeros
kind_in_c (suc zero) = Some Ones
kind_in_c (suc (suc zero)) = Some Positions
kind_in_c (suc (suc (suc n))) = None

-- what is written for C says of the answer
abbrev pub answer_from_c : Answer ShardLocation → Answer Location
answer_from_c (Found location) = Found (record { shard = location.shard; within = location.within })
answer_from_c Absent = Absent
answer_from_c Wrong = Wrong
