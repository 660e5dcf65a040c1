-- When the prefix counts and tables of several indexes are right, and what is answered of their joined bits.
use Rattle.std.specs.Prelude.{◌≡◌, ℕ, ◌-◌, ◌^◌, ◌<◌, ◌≤◌, Bool, List, All, length, map}
use Rattle.bitm_tables.specs.declared.answer.Answer.{Answer}
use Rattle.bitm_tables.specs.declared.answer.Answer.TheVariants.{Found}
use Rattle.sharded_index.specs.Joined.{joined}
use Rattle.sharded_index.specs.Prefixes.{ArePrefixes}
use Rattle.sharded_index.specs.Shards.{IsJoinedRank, IsJoinedSelection}
use Rattle.sharded_index.specs.declared.sharded.ShardedIndex.{ShardedIndex}

-- the prefix counts are those of the shards' bits, and each shard's tables are those of its bits
pub record AreShards {S : Type 0} (bits_of : S → List Bool) (right : S → Type 0) (index : ShardedIndex S) : Type 0 where
  pub prefixes : ArePrefixes (map bits_of index.shards.now) index.counts
  pub tables : All right index.shards.now

-- an index over these shards is right, and no prefix count exceeds the number of their bits
pub record IsIndexOfShards {S : Type 0} (bits_of : S → List Bool) (right : S → Type 0) (shards : List S) (index : ShardedIndex S)
    : Type 0 where
  pub shards_are : index.shards.now ≡ shards
  pub are : AreShards bits_of right index
  pub bits_small : All (λ n. n ≤ length (joined (map bits_of shards))) index.counts.bits
  pub ones_small : All (λ n. n ≤ length (joined (map bits_of shards))) index.counts.ones

-- there is such an index over the shards
abbrev pub HaveIndex : {S : Type 0} → (S → List Bool) → (S → Type 0) → List S → Type 0
HaveIndex bits_of right shards = (index : ShardedIndex _) × IsIndexOfShards bits_of right shards index

-- what is answered of a rank of the joined bits, and of a selection
abbrev pub RankedIn : {S : Type 0} → (S → List Bool) → (S → Type 0) → ShardedIndex S → Bool → ℕ → Answer ℕ → Type 0
RankedIn bits_of right index = IsJoinedRank (map bits_of index.shards.now) index.counts (AreShards bits_of right index)

abbrev pub SelectedIn : {S : Type 0} → (S → List Bool) → (S → Type 0) → ShardedIndex S → Bool → ℕ → Answer ℕ → Type 0
SelectedIn bits_of right index = IsJoinedSelection (map bits_of index.shards.now) index.counts (AreShards bits_of right index)

-- a number is what is answered, or one of the two codes
abbrev pub IfNoCode : (Answer ℕ → Type 0) → ℕ → Type 0
IfNoCode P n = n < 2 ^ 64 - 2 → P (Found n)
