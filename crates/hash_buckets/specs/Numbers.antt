-- The number of a hash.
use Rattle.std.specs.Prelude.{◌≡◌, ⊤, ℕ, ◌+◌, ◌-◌, ◌^◌, ◌<◌, ◌≤◌, ◌==◌, if◌then◌else◌, nat_lt, List, [], ◌∷◌, All, drop, length, slice_index, Option, Some, None}
use Rattle.std.specs.Option.{option_map}
use Rattle.std.specs.List.{sum_by}
use Rattle.bitm_tables.specs.Answers.{Right}
use Rattle.bitm_tables.specs.declared.answer.Answer.{Answer}
use Rattle.bitm_tables.specs.declared.answer.Answer.TheVariants.{Found, Absent, Wrong}
use Rattle.hash_buckets.specs.declared.positions.Level.{Level}
use Rattle.hash_buckets.specs.Positions.{bucket_of, next_of, slot_of, IsBucketLevel}

-- the slot of a hash among the slots of all levels, whose first is number `first`: in the first level in which its bucket's
-- seed is not 0; the seeds of a level follow the seeds of the levels before it
abbrev pub slot_from : List Level → List ℕ → ℕ → ℕ → Option ℕ
slot_from [] seeds first hash = None
slot_from (level ∷ levels) seeds first hash =
    let seed = slice_index seeds (bucket_of level hash) in
    if seed == 0 then slot_from levels (drop level.buckets seeds) (first + level.slots) (next_of hash)
    else Some (first + slot_of level seed hash)

-- the number at a slot of n keys: a slot from n on stands for an item of the list of free slots
abbrev pub slot_number : ℕ → List ℕ → ℕ → ℕ
slot_number n free slot = if nat_lt slot n then slot else slice_index free (slot - n)

-- the number of a hash; none where each level's seed is 0
abbrev pub bucket_number : List Level → List ℕ → ℕ → List ℕ → ℕ → Option ℕ
bucket_number levels seeds n free hash = option_map (slot_number n free) (slot_from levels seeds 0 hash)

-- how many buckets levels have
abbrev pub buckets_of : List Level → ℕ
buckets_of = sum_by (λ level. level.buckets)

-- how many slots levels have
abbrev pub slots_of : List Level → ℕ
slots_of = sum_by (λ level. level.slots)

-- these are levels, each bucket has one of so many seeds, and there are fewer than 2^58 slots
pub record AreBucketLevels (levels : List Level) (seeds : ℕ) : Type 0 where
  pub each : All IsBucketLevel levels
  pub seeded : buckets_of levels ≤ seeds
  pub short : slots_of levels < 2 ^ 58

-- each slot from n on has a free slot, which is less than n
pub record AreFree (levels : List Level) (n : ℕ) (free : List ℕ) : Type 0 where
  pub all : slots_of levels ≤ n + length free
  pub below : All (λ slot. slot < n) free

-- item i of a list, and Absent exactly where there is none
abbrev pub IsFreeItem : List ℕ → ℕ → Answer ℕ → Type 0
IsFreeItem xs i = Right (λ x. (i < length xs) × (x ≡ slice_index xs i)) (length xs ≤ i)

-- P of what is found
abbrev pub WhereFound : Answer ℕ → (ℕ → Type 0) → Type 0
WhereFound (Found x) P = P x
WhereFound Absent P = ⊤
WhereFound Wrong P = ⊤

-- what is known where Wrong is answered
abbrev pub IfWrong : Answer ℕ → Type 0 → Type 0
IfWrong (Found x) known = ⊤
IfWrong Absent known = ⊤
IfWrong Wrong known = known

-- the number, and Absent exactly where there is none
abbrev pub IsNumberAnswer : Option ℕ → Answer ℕ → Type 0
IsNumberAnswer number = Right (λ x. number ≡ Some x) (number ≡ None)
