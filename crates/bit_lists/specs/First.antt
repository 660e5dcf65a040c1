-- The first index of which something holds.
use Rattle.std.specs.Prelude.{ℕ, ◌<◌, Option, MatchOption}

-- i is the first index of which P holds
pub record IsFirst (P : ℕ → Type 0) (i : ℕ) : Type 0 where
  pub holds : P i
  pub none_before : (k : ℕ) → k < i → ¬ (P k)

-- the first index of which P holds, and None exactly where it holds of none
abbrev pub MatchesFirst : (ℕ → Type 0) → Option ℕ → Type 0
MatchesFirst P o = MatchOption o ((k : ℕ) → ¬ (P k)) (IsFirst P)
