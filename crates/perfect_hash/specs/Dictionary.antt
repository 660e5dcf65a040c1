-- Numbers of keys, with a fingerprint of each key.
use Rattle.std.specs.Prelude.{◌≡◌, ℕ, ◌*◌, ◌%◌, ◌^◌, ◌<◌, ◌≤◌, ◌==◌, Bool, List, length, if◌then◌else◌, Option, Some, None, slice_get}
use Rattle.bit_lists.specs.Bits.{bits_of}
use Rattle.bit_lists.specs.Count.{ones_of}
use Rattle.bit_lists.specs.Number.{number_at}
use Rattle.perfect_hash.specs.Parts.{Parts, number_from}
use Rattle.perfect_hash.specs.Perfect.{IsMinimalPerfect}
use Rattle.perfect_hash.specs.Positions.{spread}

-- the fingerprint of a hash: the low digits of the spread number that comes after those of all levels
abbrev pub print_of : ℕ → ℕ → ℕ
print_of width hash = spread hash 256 % 2 ^ width

-- the fingerprint that stands at a number
abbrev pub print_at : List ℕ → ℕ → ℕ → ℕ
print_at prints width v = number_at (bits_of prints) (v * width) width

-- a number, where it passes the test
abbrev pub kept_if : (ℕ → Bool) → Option ℕ → Option ℕ
kept_if test None = None
kept_if test (Some v) = if test v then Some v else None

-- the number of a hash, where its fingerprint stands there
abbrev pub found_by : (ℕ → Option ℕ) → List ℕ → ℕ → ℕ → Option ℕ
found_by number prints width hash = kept_if (λ v. print_at prints width v == print_of width hash) (number hash)

-- a perfect hash, and fingerprints of the given number of bits
pub record Entries (H I P : Type 0) : Type 0 where
  pub numbers : Parts H I P
  pub prints : List ℕ
  pub width : ℕ

-- the number of a key, where its fingerprint stands there
abbrev pub found_of : {H I P K : Type 0} → (P → ℕ → ℕ → ℕ → ℕ → ℕ) → (H → K → ℕ) → Entries H I P → K → Option ℕ
found_of by hash e key = found_by (number_from by e.numbers) e.prints e.width (hash e.numbers.hasher key)

-- there is a fragment of the given number of bits for each 1 bit
pub record HasPrintRoom (b : List Bool) (prints : List ℕ) (width : ℕ) : Type 0 where
  pub some : 0 < width
  pub few : width ≤ 32
  pub enough : ones_of b * width ≤ 64 * length prints
  pub short : ones_of b * width < 2 ^ 64

-- the fingerprint of each key stands at its number
abbrev pub ArePrints : {K : Type 0} → (K → Option ℕ) → (K → ℕ) → List K → List ℕ → ℕ → Type 0
ArePrints {K} number print keys prints width =
    (i v : ℕ) (k : K) → slice_get keys i ≡ Some k → number k ≡ Some v → print_at prints width v ≡ print k

-- each key is found, at a number of its own below their count; what is found of any value is the number of a key
-- that has its fingerprint
pub record IsDictionary {K : Type 0} (found : K → Option ℕ) (print : K → ℕ) (keys : List K) : Type 0 where
  pub perfect : IsMinimalPerfect found keys
  pub alike : (k : K) (v : ℕ) → found k ≡ Some v
      → (i : ℕ) × (l : K) × (slice_get keys i ≡ Some l) × (found l ≡ Some v) × (print l ≡ print k)
