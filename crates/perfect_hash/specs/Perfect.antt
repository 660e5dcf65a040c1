-- Minimal perfect numbering.
use Rattle.std.specs.Prelude.{◌≡◌, ℕ, ◌<◌, ◌==◌, Bool, false, List, length, slice_get, All, Option, Some, None, IfSome, IsSome}

-- whether the option has this number
abbrev pub is_number : ℕ → Option ℕ → Bool
is_number v None = false
is_number v (Some w) = w == v

-- each key has a number, and each number that is given, to whatever value, is below their count; no two positions of the
-- list have the same, and each number below the count is some key's
pub record IsMinimalPerfect {K : Type 0} (number : K → Option ℕ) (keys : List K) : Type 0 where
  pub below : (k : K) → IfSome (number k) (λ v. v < length keys)
  pub some : All (λ k. IsSome (number k)) keys
  pub apart : (i j : ℕ) (k l : K) → slice_get keys i ≡ Some k → slice_get keys j ≡ Some l → number k ≡ number l → i ≡ j
  pub onto : (v : ℕ) → v < length keys → (i : ℕ) × (k : K) × (slice_get keys i ≡ Some k) × (number k ≡ Some v)
