-- Many look-ups side by side. 2^64 - 1 stands where a hash has no number, or has no position yet.
use Rattle.std.specs.Prelude.{◌≡◌, ◌≢◌, ℕ, ◌-◌, ◌*◌, ◌^◌, ◌<◌, ◌≤◌, All, Bool, List, length, slice_get, slice_index, sum, Option, Some, None}
use Rattle.bit_lists.specs.Count.{ones_before}
use Rattle.perfect_hash.specs.Levels.{position_from, GoesOn}

-- the number, or 2^64 - 1
abbrev pub number_code : Option ℕ → ℕ
number_code None = 2 ^ 64 - 1
number_code (Some n) = n

-- number k is that of hash k
abbrev pub AreNumbersOf : (ℕ → Option ℕ) → List ℕ → List ℕ → Type 0
AreNumbersOf number hashes numbers = (k : ℕ) → k < length hashes → slice_index numbers k ≡ number_code (number (slice_index hashes k))

-- hash k is that of key k
abbrev pub AreHashes : {K : Type 0} → (K → ℕ) → List K → List ℕ → Type 0
AreHashes {K} hash keys hashes = (k : ℕ) (key : K) → slice_get keys k ≡ Some key → slice_index hashes k ≡ hash key

-- number k is that of key k
abbrev pub AreNumbersOfKeys : {K : Type 0} → (K → Option ℕ) → List K → List ℕ → Type 0
AreNumbersOfKeys {K} number keys numbers = (k : ℕ) (key : K) → slice_get keys k ≡ Some key → slice_index numbers k ≡ number_code (number key)

-- levels of these sizes, each of at least one word, are inside the bits, and there are few enough of both
pub record AreLevelsInside (sizes : List ℕ) (bits : List Bool) : Type 0 where
  pub some : All (λ size. 0 < size) sizes
  pub within : 64 * sum sizes ≤ length bits
  pub few : length sizes ≤ 256
  pub short : length bits < 2 ^ 64

-- before a level, a look-up has found its position, or goes on there
pub record IsLookedUp (fall : ℕ → ℕ → ℕ) (b : List Bool) (sizes : List ℕ) (level begin position : ℕ) : Type 0 where
  pub goes_on : position ≡ 2 ^ 64 - 1 → GoesOn fall b sizes level begin
  pub found : position ≢ 2 ^ 64 - 1 → position_from fall b 0 0 sizes ≡ Some position

-- before a level, each look-up has found its position, or its hash is among the first `count` that wait, and all these go
-- on
pub record AreLookedUp (fall : ℕ → ℕ → ℕ → ℕ) (b : List Bool) (sizes : List ℕ) (level begin : ℕ) (hashes positions waiting : List ℕ) (count : ℕ) : Type 0 where
  pub room : count ≤ length waiting
  pub inside : (a : ℕ) → a < count → slice_index waiting a < length hashes
  pub go_on : (a : ℕ) → a < count → GoesOn (fall (slice_index hashes (slice_index waiting a))) b sizes level begin
  pub found : (k : ℕ) → k < length hashes → slice_index positions k ≢ 2 ^ 64 - 1
      → position_from (fall (slice_index hashes k)) b 0 0 sizes ≡ Some (slice_index positions k)
  pub wait : (k : ℕ) → k < length hashes → slice_index positions k ≡ 2 ^ 64 - 1 → (a : ℕ) × (a < count) × (slice_index waiting a ≡ k)

-- number k is that of the ones before position k
pub record IsNumberOfPosition (b : List Bool) (position number : ℕ) : Type 0 where
  pub none : position ≡ 2 ^ 64 - 1 → number ≡ 2 ^ 64 - 1
  pub some : position ≢ 2 ^ 64 - 1 → number ≡ ones_before b position

abbrev pub AreRanks : List Bool → List ℕ → List ℕ → Type 0
AreRanks b positions numbers = (k : ℕ) → k < length positions → IsNumberOfPosition b (slice_index positions k) (slice_index numbers k)
