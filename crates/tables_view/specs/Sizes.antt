-- Borrowed words and two tables, and how far a list is filled.
use Rattle.std.specs.Prelude.{◌≡◌, ℕ, ◌<◌, List, slice_index}
use Rattle.bitm_tables.specs.Tables.{Lists}

-- words and two tables
abbrev pub lists_of : List ℕ → List ℕ → List ℕ → Lists
lists_of words upper lower = record { words = words; upper = upper; lower = lower }

-- each item of the list before item n is what the function gives for its index
abbrev pub IsFilled : (ℕ → ℕ) → List ℕ → ℕ → Type 0
IsFilled f xs n = (j : ℕ) → j < n → slice_index xs j ≡ f j
