-- Values at the numbers of their keys.
use Rattle.std.specs.Prelude.{◌≡◌, ℕ, ◌<◌, List, length, slice_index, Option, IfSome}

-- each value stands at the number of its key
abbrev pub AreAtNumbers : (ℕ → Option ℕ) → List ℕ → List ℕ → List ℕ → Type 0
AreAtNumbers number keys values placed =
    (i : ℕ) → i < length keys → IfSome (number (slice_index keys i)) (λ v. slice_index placed v ≡ slice_index values i)
