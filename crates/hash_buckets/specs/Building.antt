-- Levels that were built in borrowed memory.
use Rattle.std.specs.Prelude.{◌≡◌, ⊤, ℕ, ◌+◌, ◌-◌, ◌*◌, ◌/◌, ◌<◌, ◌≤◌, ◌⊎◌, Bool, true, false, List, All, count_by, if◌then◌else◌, length, max, min, nat_lt, slice_index, Option, Some, None}
use Rattle.perfect_hash.specs.Perfect.{is_number, IsMinimalPerfect}
use Rattle.hash_buckets.specs.declared.building.BuildError.{BuildError}
use Rattle.hash_buckets.specs.declared.building.BuildError.TheVariants.{Equal, Left}
use Rattle.hash_buckets.specs.declared.positions.Level.{Level}
use Rattle.hash_buckets.specs.declared.levels.Made.{Made}
use Rattle.hash_buckets.specs.Positions.{IsBucketLevel}
use Rattle.hash_buckets.specs.Numbers.{buckets_of, slots_of, slot_from}
use Rattle.hash_buckets.specs.Parts.{buckets_number, BucketsParts, IsBucketsHash}

-- a level for some keys: a slot for each, a bucket for each 4.75, or for each where they are few, and slices of at most
-- 512 slots
unfoldable pub level_of : ℕ → Level
level_of keys = record {
  buckets = if nat_lt keys 64 then keys else keys * 4 / 19 + 1;
  slots = keys;
  slice = min keys (min 512 (max 64 (keys / 16)));
}

-- whether there is none
abbrev pub is_none : Option ℕ → Bool
is_none None = true
is_none (Some slot) = false

-- how many of the hashes have slot q in the levels, whose slots begin at number `first`
abbrev pub slots_at : List Level → List ℕ → ℕ → List ℕ → ℕ → ℕ
slots_at levels seeds first hashes q = count_by (λ hash. is_number q (slot_from levels seeds first hash)) hashes

-- how many of the hashes have no slot in the levels
abbrev pub count_left : List Level → List ℕ → ℕ → List ℕ → ℕ
count_left levels seeds first hashes = count_by (λ hash. is_none (slot_from levels seeds first hash)) hashes

-- a level, whose slots begin at number `first`, has a seed and an end for each bucket, and ends before a limit
pub record HasBucketRoom (level : Level) (first limit ends seeds : ℕ) : Type 0 where
  pub ended : level.buckets ≤ ends
  pub seeded : level.buckets ≤ seeds
  pub within : first + level.slots ≤ limit

-- how far levels were built, the first of which has its slots from number `first` on, in room for so many levels, ends
-- and seeds, and for the slots before a limit: no hash is left, or the levels are full, or the next has no room
pub record IsMadeSoFar (first limit levels ends seeds : ℕ) (made : Made) : Type 0 where
  pub few : made.levels ≤ levels
  pub seeded : made.seeds ≤ seeds
  pub ended : (made.left ≡ 0) ⊎ (made.levels ≡ levels) ⊎ (HasBucketRoom (level_of made.left) made.slots limit ends (seeds - made.seeds) → ⊥)

-- these levels were made
pub record AreMade (made : Made) (first limit : ℕ) (levels : List Level) : Type 0 where
  pub each : All IsBucketLevel levels
  pub buckets : buckets_of levels ≡ made.seeds
  pub slots : first + slots_of levels ≡ made.slots
  pub within : made.slots ≤ limit

-- the parts form a hash, by which n hashes have numbers of their own below n
pub record IsBuilt (hashes : List ℕ) (parts : BucketsParts) : Type 0 where
  pub perfect : IsMinimalPerfect (buckets_number parts) hashes
  pub keys : parts.keys ≡ length hashes
  pub parts_are : IsBucketsHash parts

-- two of the hashes are equal, the first of which stands before the other
abbrev pub AreEqualAt : List ℕ → ℕ → ℕ → Type 0
AreEqualAt hashes i j = (i < j) × (j < length hashes) × (slice_index hashes i ≡ slice_index hashes j)

-- why no hash was built: two of the hashes are equal, or some are left, in room for so many levels, ends and seeds, and
-- for the slots before a limit
abbrev pub IsRefused : List ℕ → ℕ → ℕ → ℕ → ℕ → BuildError → Type 0
IsRefused hashes limit levels ends seeds (Equal i j) = AreEqualAt hashes i j
IsRefused hashes limit levels ends seeds (Left made) = (0 < made.left) × IsMadeSoFar 0 limit levels ends seeds made

-- P of the items that are equal, or Q of how far levels were built
abbrev pub IfEqual : BuildError → (ℕ → ℕ → Type 0) → (Made → Type 0) → Type 0
IfEqual (Equal i j) P Q = P i j
IfEqual (Left made) P Q = Q made

-- levels, seeds and slots that were made are within their room, and no hash is left
pub record IsWithinRoom (made : Made) (levels seeds slots : ℕ) : Type 0 where
  pub for_levels : made.levels ≤ levels
  pub for_seeds : made.seeds ≤ seeds
  pub for_slots : made.slots ≤ slots
  pub none : made.left ≡ 0

-- P of how far levels were built
abbrev pub IfLeft : BuildError → (Made → Type 0) → Type 0
IfLeft (Equal i j) P = ⊤
IfLeft (Left made) P = P made

-- these levels have the buckets and the slots that were made, and leave as many hashes as it says
pub record AreLeft (made : Made) (levels : List Level) (seeds hashes : List ℕ) : Type 0 where
  pub each : All IsBucketLevel levels
  pub buckets : buckets_of levels ≡ made.seeds
  pub slots : slots_of levels ≡ made.slots
  pub left : made.left ≡ count_left levels seeds 0 hashes
