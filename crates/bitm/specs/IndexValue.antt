-- What a caller sees of an index. Its tables follow from the bits of the bit vector, so they are no part of it.

-- a bit vector and the two strategies that support it
pub record IndexValue (BV S S0 : Type 0) : Type 0 where
  pub content : BV
  pub select : S
  pub select0 : S0
