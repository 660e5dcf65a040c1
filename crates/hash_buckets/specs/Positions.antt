-- The bucket and the slot of a hash in a level, and its hash in the next.
use Rattle.std.specs.Prelude.{ℕ, ◌+◌, ◌-◌, ◌*◌, ◌/◌, ◌%◌, ◌^◌, ◌<◌, ◌≤◌, bit_xor}
use Rattle.perfect_hash.specs.Positions.{spread}
use Rattle.hash_buckets.specs.declared.positions.Level.{Level}

-- x, as a fraction of 2^64, of a number
abbrev pub scaled_to : ℕ → ℕ → ℕ
scaled_to len x = x * len / 2 ^ 64

-- a level has a bucket, and a slice of it has a slot, but no more than the level
pub record IsBucketLevel (level : Level) : Type 0 where
  pub buckets : 0 < level.buckets
  pub slice : 0 < level.slice
  pub within : level.slice ≤ level.slots

-- the hash of a key in the next level
unfoldable pub next_of : ℕ → ℕ
next_of hash = spread hash 0

-- a hash, mixed with a seed
unfoldable pub mixed : ℕ → ℕ → ℕ
mixed seed hash = bit_xor hash (seed * 0xC2B2AE3D27D4EB4F % 2 ^ 64) * 0x9FB21C651E98DF25 % 2 ^ 64

-- the bucket of a hash
abbrev pub bucket_of : Level → ℕ → ℕ
bucket_of level hash = scaled_to level.buckets hash

-- where the slice of a hash begins
abbrev pub slice_of : Level → ℕ → ℕ
slice_of level hash = scaled_to (level.slots - level.slice + 1) hash

-- the slot of a hash by a seed: where its slice begins, and an item of it, by the mixed hash
unfoldable pub slot_of : Level → ℕ → ℕ → ℕ
slot_of level seed hash = slice_of level hash + scaled_to level.slice (mixed seed hash)
