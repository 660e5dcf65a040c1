-- What a caller sees of a perfect hash.
use Rattle.std.specs.Prelude.{ℕ, List, Bool, Option}
use Rattle.perfect_hash.specs.Levels.{fall_in, looked}
use Rattle.perfect_hash.specs.Numbers.{number_in}
use Rattle.perfect_hash.specs.Positions.{position_in}

-- a hasher, what places hashes, how many words each level has, and the bits of all levels, which are those of an index
pub record Parts (H I P : Type 0) : Type 0 where
  pub hasher : H
  pub placing : P
  pub sizes : List ℕ
  pub bits : List Bool
  pub index : I

-- the number of a hash that parts give, where a level falls `by` their placing and the words before it
abbrev pub number_from : {H I P : Type 0} → (P → ℕ → ℕ → ℕ → ℕ → ℕ) → Parts H I P → ℕ → Option ℕ
number_from by parts = number_in (fall_in (by parts.placing) parts.sizes) parts.sizes parts.bits

-- the number of a key
abbrev pub number_at : {H I P K : Type 0} → (P → ℕ → ℕ → ℕ → ℕ → ℕ) → (H → K → ℕ) → Parts H I P → K → Option ℕ
number_at by hash parts key = number_from by parts (hash parts.hasher key)

-- at how many levels a key is looked for
abbrev pub levels_looked : {H I P K : Type 0} → (P → ℕ → ℕ → ℕ → ℕ → ℕ) → (H → K → ℕ) → Parts H I P → K → ℕ
levels_looked by hash parts key =
    looked (fall_in (by parts.placing) parts.sizes (hash parts.hasher key)) parts.bits 0 0 parts.sizes

-- the same where hashes alone say where they fall
abbrev pub number_of : {H I P K : Type 0} → (H → K → ℕ) → Parts H I P → K → Option ℕ
number_of = number_at (λ _ _. position_in)
