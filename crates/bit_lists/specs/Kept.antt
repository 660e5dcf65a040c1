-- What a call that writes into a list leaves there.
use Rattle.std.specs.Prelude.{◌≡◌, ℕ, ◌≤◌, List, length, slice_index}

-- the length and the items from item n on are unchanged
abbrev pub IsKeptFrom : ℕ → List ℕ → List ℕ → Type 0
IsKeptFrom n old new = (length new ≡ length old) × ((j : ℕ) → n ≤ j → slice_index new j ≡ slice_index old j)
