-- How many bits, and how many 1 bits, there are before each shard: what is found in such numbers, whatever they are, and
-- where they are those of the shards.
use Rattle.std.specs.Prelude.{◌≡◌, ℕ, ◌+◌, ◌-◌, ◌<◌, ◌≤◌, Bool, List, length, slice_index}
use Rattle.bitm_tables.specs.Answers.{Right}
use Rattle.bitm_tables.specs.declared.answer.Answer.{Answer}
use Rattle.bitm_tables.specs.declared.answer.Answer.TheVariants.{Found, Absent, Wrong}
use Rattle.sharded_index.specs.Joined.{count_of_kind, joined, joined_to, shard_at}
use Rattle.sharded_index.specs.declared.counts.Kind.{Kind}
use Rattle.sharded_index.specs.declared.counts.Kind.TheVariants.{Positions, Zeros, Ones}
use Rattle.sharded_index.specs.declared.counts.Location.{Location}

-- a number for each shard and one more: the bits before it, and the 1 bits
pub record Prefixes : Type 0 where
  pub bits : List ℕ
  pub ones : List ℕ

-- these two
abbrev pub prefixes_of : List ℕ → List ℕ → Prefixes
prefixes_of bits ones = record { bits = bits; ones = ones }

-- as many numbers of either kind, and at least one
pub record HasLengths (c : Prefixes) : Type 0 where
  pub some : 0 < length c.bits
  pub same : length c.ones ≡ length c.bits

-- how many shards there are
abbrev pub shard_count : Prefixes → ℕ
shard_count c = length c.bits - 1

-- how many bits of a kind the numbers claim before shard k
abbrev pub claimed : Kind → Prefixes → ℕ → ℕ
claimed Positions c k = slice_index c.bits k
claimed Zeros c k = slice_index c.bits k - slice_index c.ones k
claimed Ones c k = slice_index c.ones k

-- and in all
abbrev pub claimed_in_all : Kind → Prefixes → ℕ
claimed_in_all of c = claimed of c (shard_count c)

-- the numbers are those of the shards
pub record ArePrefixes (bs : List (List Bool)) (c : Prefixes) : Type 0 where
  pub bits_len : length c.bits ≡ length bs + 1
  pub ones_len : length c.ones ≡ length bs + 1
  pub bits_before : (k : ℕ) → k ≤ length bs → slice_index c.bits k ≡ count_of_kind Positions (joined_to bs k)
  pub ones_before : (k : ℕ) → k ≤ length bs → slice_index c.ones k ≡ count_of_kind Ones (joined_to bs k)

-- the numbers claim that a position, or the bit with a rank, is in a shard, after the given number of its kind there
pub record IsClaimed (of : Kind) (c : Prefixes) (number : ℕ) (location : Location) : Type 0 where
  pub inside : location.shard < shard_count c
  pub is : claimed of c location.shard + location.within ≡ number
  pub next : number < claimed of c (location.shard + 1)

-- whatever the numbers are: Absent is answered exactly where they claim no more in all, and Wrong only where they claim
-- more than the number before the first shard
abbrev pub IsClaimedBy : Kind → Prefixes → ℕ → Answer Location → Type 0
IsClaimedBy of c number (Found location) = IsClaimed of c number location × (number < claimed_in_all of c)
IsClaimedBy of c number Absent = claimed_in_all of c ≤ number
IsClaimedBy of c number Wrong = (number < claimed of c 0) × (number < claimed_in_all of c)

-- a position of the joined bits, or the bit with a rank there, is in a shard, after the given number of its kind there
pub record IsLocationWithin (of : Kind) (bs : List (List Bool)) (number : ℕ) (location : Location) : Type 0 where
  pub inside : location.shard < length bs
  pub within : location.within < count_of_kind of (shard_at bs location.shard)
  pub is : count_of_kind of (joined_to bs location.shard) + location.within ≡ number

-- where the numbers are those of the shards: Absent exactly where the joined bits have no more of the kind
abbrev pub IsShardFound : Kind → List (List Bool) → ℕ → Answer Location → Type 0
IsShardFound of bs number = Right (λ location. IsLocationWithin of bs number location) (count_of_kind of (joined bs) ≤ number)
