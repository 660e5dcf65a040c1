-- The number of a hash in levels.
use Rattle.std.specs.Prelude.{◌≡◌, ℕ, ◌*◌, ◌^◌, ◌<◌, ◌≤◌, List, Bool, All, Option, length, sum}
use Rattle.std.specs.Option.{option_map}
use Rattle.bit_lists.specs.Bits.{bits_of, IsShort}
use Rattle.bit_lists.specs.Count.{ones_before}
use Rattle.perfect_hash.specs.Levels.{position_from}
use Rattle.perfect_hash.specs.Perfect.{IsMinimalPerfect}
use Rattle.perfect_hash.specs.Positions.{position_in}

-- each level has a word, the bits are those of all levels, and there are few enough of both
pub record AreSizes (sizes : List ℕ) (bits : List Bool) : Type 0 where
  pub some : All (λ size. 0 < size) sizes
  pub all : 64 * sum sizes ≡ length bits
  pub few : length sizes ≤ 256
  pub short : length bits < 2 ^ 64

-- the number of a hash: how many ones stand before its own
abbrev pub number_in : (ℕ → ℕ → ℕ → ℕ) → List ℕ → List Bool → ℕ → Option ℕ
number_in fall sizes b hash = option_map (ones_before b) (position_from (fall hash) b 0 0 sizes)

-- the same where hashes alone say where they fall
abbrev pub number_by : List ℕ → List Bool → ℕ → Option ℕ
number_by = number_in position_in

-- levels of these sizes and words number the keys, each by a number of its own below their count
pub record AreLevels {K : Type 0} (fall : ℕ → ℕ → ℕ → ℕ) (hash : K → ℕ) (keys : List K) (sizes words : List ℕ) : Type 0 where
  pub perfect : IsMinimalPerfect (λ k. number_in fall sizes (bits_of words) (hash k)) keys
  pub sizes_are : AreSizes sizes (bits_of words)
  pub short : IsShort words
