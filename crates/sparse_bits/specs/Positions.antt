-- Bits of which the positions of the 1 bits are given.
use Rattle.std.specs.Prelude.{ℕ, zero, suc, ◌+◌, ◌==◌, ◌<◌, ◌≤◌, Bool, true, false, if◌then◌else◌, List, [], ◌∷◌, length, slice_index}

-- the bits of the n positions from k on, which are 1 bits exactly at these positions, rising
unfoldable pub bits_at : ℕ → ℕ → List ℕ → List Bool
bits_at zero k xs = []
bits_at (suc n) k [] = false ∷ bits_at n (k + 1) []
bits_at (suc n) k (x ∷ xs) = if x == k then true ∷ bits_at n (k + 1) xs else false ∷ bits_at n (k + 1) (x ∷ xs)

-- each number is less than those after it
abbrev pub Rises : List ℕ → Type 0
Rises xs = (i j : ℕ) → i < j → j < length xs → slice_index xs i < slice_index xs j

-- some number is not greater than the one before it
abbrev pub HasNoRise : List ℕ → Type 0
HasNoRise xs = (k : ℕ) × (k + 1 < length xs) × (slice_index xs (k + 1) ≤ slice_index xs k)

-- some number is n or more
abbrev pub HasPast : List ℕ → ℕ → Type 0
HasPast xs n = (k : ℕ) × (k < length xs) × (n ≤ slice_index xs k)

-- the numbers rise, from k on and below k + n
pub record AreBitPositions (n k : ℕ) (xs : List ℕ) : Type 0 where
  pub rising : Rises xs
  pub from : (i : ℕ) → i < length xs → k ≤ slice_index xs i
  pub below : (i : ℕ) → i < length xs → slice_index xs i < k + n

-- the positions xs are held, and are those of the 1 bits of n bits
pub record ArePositionsHeld (xs : List ℕ) (held : Type 0) (n : ℕ) : Type 0 where
  pub holds : held
  pub positions : AreBitPositions n 0 xs

-- the first c of these positions have no more than r 0 bits before them, and the others more
pub record PartsZeros (xs : List ℕ) (r c : ℕ) : Type 0 where
  pub bound : c ≤ length xs
  pub few : (j : ℕ) → j < c → slice_index xs j ≤ r + j
  pub more : (j : ℕ) → c ≤ j → j < length xs → r + j < slice_index xs j
