-- What a view of a hash has, and when these are the parts of a hash.
use Rattle.std.specs.Prelude.{ℕ, ◌<◌, ◌≤◌, List, Option, length, slice_index}
use Rattle.hash_buckets.specs.declared.positions.Level.{Level}
use Rattle.hash_buckets.specs.Numbers.{bucket_number, AreFree, AreBucketLevels}

-- the levels, the seeds of their buckets, the free slots, and the number of keys: they may hold anything
pub record BucketsParts : Type 0 where
  pub levels : List Level
  pub seeds : List ℕ
  pub free : List ℕ
  pub keys : ℕ

-- the number of a hash by these parts
abbrev pub buckets_number : BucketsParts → ℕ → Option ℕ
buckets_number parts = bucket_number parts.levels parts.seeds parts.keys parts.free

-- no item of a list is less than one before it
abbrev pub NeverFall : List ℕ → Type 0
NeverFall xs = (i j : ℕ) → i ≤ j → j < length xs → slice_index xs i ≤ slice_index xs j

-- these are levels with a seed for each bucket, and each slot from the number of keys on has a free slot below it; the
-- free slots rise
pub record IsBucketsHash (parts : BucketsParts) : Type 0 where
  pub levels_are : AreBucketLevels parts.levels (length parts.seeds)
  pub free_are : AreFree parts.levels parts.keys parts.free
  pub rise : NeverFall parts.free
