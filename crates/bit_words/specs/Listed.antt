-- Bits at the positions of a list.
use Rattle.std.specs.Prelude.{◌≡◌, ℕ, ◌<◌, ◌≤◌, Bool, List, length, count_by, nat_le}
use Rattle.std.specs.List.{Contains}
use Rattle.bit_lists.specs.Bits.{item}

-- how many of the positions are n or more
abbrev pub outside_of : ℕ → List ℕ → ℕ
outside_of n positions = count_by (λ p. nat_le n p) positions

-- new is old with each item before n whose position is in the list made v
pub record IsSetAt (old : List Bool) (n : ℕ) (v : Bool) (positions : List ℕ) (new : List Bool) : Type 0 where
  pub listed : (i : ℕ) → i < n → Contains positions i → item new i ≡ v
  pub unchanged : (i : ℕ) → (Contains positions i → n ≤ i) → item new i ≡ item old i
  pub same_length : length new ≡ length old
