-- What a caller sees of a tree. Its bits are those of its degrees, so they are no part of it.
use Rattle.std.specs.Prelude.{ℕ, List}

-- how many children each node has, and the two strategies that select
pub record TreeValue (S S0 : Type 0) : Type 0 where
  pub degrees : List ℕ
  pub select : S
  pub select0 : S0
