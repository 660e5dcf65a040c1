-- What a caller sees of a matrix.
use Rattle.std.specs.Prelude.{ℕ, Bool, List}

-- what a matrix is seen as: numbers, each of `width` binary digits at most, whether it is compact, which is one without
-- quarters, and the two strategies that select
pub record Numbers (S S0 : Type 0) : Type 0 where
  pub items : List ℕ
  pub width : ℕ
  pub compact : Bool
  pub select : S
  pub select0 : S0
