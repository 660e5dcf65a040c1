-- Bits that were copied from one list into another.
use Rattle.std.specs.Prelude.{◌≡◌, ℕ, ◌+◌, ◌<◌, ◌≤◌, ◌⊎◌, Bool, List, length}
use Rattle.bit_lists.specs.Bits.{item}

-- new is old with the n items from position `to` on replaced by those of source from position `from` on
pub record IsCopied (source : List Bool) (from : ℕ) (old : List Bool) (to n : ℕ) (new : List Bool) : Type 0 where
  pub copied : (i : ℕ) → i < n → item new (to + i) ≡ item source (from + i)
  pub unchanged : (i : ℕ) → (i < to) ⊎ (to + n ≤ i) → item new i ≡ item old i
  pub same_length : length new ≡ length old

-- the n items of a from position s on are those of b from position t on
abbrev pub AreSame : List Bool → ℕ → List Bool → ℕ → ℕ → Type 0
AreSame a s b t n = (i : ℕ) → i < n → item a (s + i) ≡ item b (t + i)
