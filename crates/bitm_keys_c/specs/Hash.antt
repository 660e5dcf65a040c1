-- What the exported calls of perfect hashes answer.
use Rattle.std.specs.Prelude.{◌≡◌, ℕ, ◌^◌, ◌<◌, ◌≤◌, List, length}
use Rattle.perfect_hash.specs.declared.levels.in_place.Made.{Made}
use Rattle.bitm_abi.specs.Hash.{CanBeHash, HashLists, IsHashNumber}
use Rattle.bitm_abi.specs.Status.{Exported}

-- there are words for a level, fewer than 2^58, and as many beside them
abbrev pub CanBeLevel : List ℕ → List ℕ → Type 0
CanBeLevel ones again = (0 < length ones) × (length ones < 2 ^ 58) × (length again ≡ length ones)

-- there are fewer than 2^58 words, a seed for each, and room to sort the hashes
abbrev pub CanBeSeeded : List ℕ → List ℕ → List ℕ → List ℕ → Type 0
CanBeSeeded hashes words seeds sorted = (length words < 2 ^ 58) × (length words ≤ length seeds) × (length hashes ≤ length sorted)

-- there are words for a level, a seed for each, and room to sort the hashes
abbrev pub CanBeSeededLevel : List ℕ → List ℕ → List ℕ → List ℕ → List ℕ → Type 0
CanBeSeededLevel hashes ones seeds again sorted =
    CanBeLevel ones again × (length seeds ≡ length ones) × (length hashes ≤ length sorted)

-- what a build made, as the library says it
abbrev pub made_of : ℕ → ℕ → ℕ → Made
made_of levels words left = record { levels = levels; words = words; left = left }

-- the number of a hash: the status, and the number before and after the call
abbrev pub HashAnswered : HashLists → ℕ → ℕ → ℕ → ℕ → Type 0
HashAnswered h hash = Exported (CanBeHash h) (IsHashNumber h hash)
