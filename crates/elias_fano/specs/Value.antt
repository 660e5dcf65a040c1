-- What a caller sees of a sequence. Its two vectors are those of its numbers, so they are no part of it.
use Rattle.std.specs.Prelude.{ℕ, List}

-- the numbers, and the two strategies that select in the upper vector
pub record SequenceValue (S S0 : Type 0) : Type 0 where
  pub items : List ℕ
  pub select : S
  pub select0 : S0
