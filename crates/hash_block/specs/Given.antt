-- Strings that are given one after another, and the order of their numbers.
use Rattle.std.specs.Prelude.{◌≡◌, ◌≢◌, ℕ, zero, suc, ◌+◌, ◌-◌, ◌<◌, ◌≤◌, List, ◌∷◌, length, slice_index, Option, Some, IsSome}
use Rattle.hash_block.specs.Bytes.{bytes_from, AreZeroBytesFrom, StandsAt}

-- where string i begins, of strings that end at these positions
abbrev pub string_begin : List ℕ → ℕ → ℕ
string_begin ends i = slice_index (0 ∷ ends) i

-- how many bytes it has
abbrev pub len_of : List ℕ → ℕ → ℕ
len_of ends i = slice_index ends i - string_begin ends i

-- its bytes
abbrev pub given : List ℕ → List ℕ → ℕ → ℕ → ℕ
given bytes ends i = bytes_from bytes (string_begin ends i)

-- strings stand one after another in the bytes, and take all of them
pub record AreGiven (bytes ends : List ℕ) : Type 0 where
  pub rise : (i : ℕ) → i < length ends → string_begin ends i ≤ slice_index ends i
  pub inside : (i : ℕ) → i < length ends → slice_index ends i ≤ length bytes
  pub all : string_begin ends (length ends) ≡ length bytes

-- each of n strings has a number below n, no two have the same, and each number below n is that of a string
pub record HaveNumbers (number : ℕ → Option ℕ) (n : ℕ) : Type 0 where
  pub some : (i : ℕ) → i < n → IsSome (number i)
  pub below : (i v : ℕ) → i < n → number i ≡ Some v → v < n
  pub apart : (i j v : ℕ) → i < n → j < n → number i ≡ Some v → number j ≡ Some v → i ≡ j
  pub onto : (v : ℕ) → v < n → (i : ℕ) × (i < n) × (number i ≡ Some v)

-- where the string stands that has a number: `order` has 1 more than its index there, or 0
pub record AreStringsPlaced (number : ℕ → Option ℕ) (n k : ℕ) (order : List ℕ) : Type 0 where
  pub each : (i : ℕ) → i < k → (v : ℕ) × (number i ≡ Some v) × (v < n) × (slice_index order v ≡ i + 1)
  pub back : (v : ℕ) → v < n → slice_index order v ≢ 0 → (i : ℕ) × (i < k) × (number i ≡ Some v) × (slice_index order v ≡ i + 1)

-- each of the first k strings has a number, and no two have the same
pub record AreNumbersApart (number : ℕ → Option ℕ) (k : ℕ) : Type 0 where
  pub some : (i : ℕ) → i < k → IsSome (number i)
  pub apart : (i j v : ℕ) → i < k → j < k → number i ≡ Some v → number j ≡ Some v → i ≡ j

-- how many bytes the string has that stands where `order` has this item
abbrev pub piece_of : List ℕ → ℕ → ℕ
piece_of ends zero = 0
piece_of ends (suc i) = len_of ends i

-- how many bytes the strings have together that stand at the first v numbers
unfoldable pub total_of : List ℕ → List ℕ → ℕ → ℕ
total_of ends order zero = 0
total_of ends order (suc v) = total_of ends order v + piece_of ends (slice_index order v)

-- string i stands at number v, of strings that begin at `starts`
pub record StandsAtNumber (bytes ends starts words : List ℕ) (i v : ℕ) : Type 0 where
  pub len : slice_index starts v + len_of ends i ≡ slice_index starts (v + 1)
  pub inside : slice_index starts (v + 1) ≤ slice_index starts (length ends)
  pub same : StandsAt words (slice_index starts v) (given bytes ends i) (len_of ends i)

-- strings stand one after another in the words, in this order, and zeros after them
pub record AreArranged (bytes ends order starts words : List ℕ) : Type 0 where
  pub first : slice_index starts 0 ≡ 0
  pub each : (v i : ℕ) → v < length ends → slice_index order v ≡ i + 1 → StandsAtNumber bytes ends starts words i v
  pub last : slice_index starts (length ends) ≡ length bytes
  pub padding : AreZeroBytesFrom words (length bytes)
