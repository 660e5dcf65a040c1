-- A rank and an index are no code.
use Rattle.std.proofs.Common.{ℕ, ◌-◌, ◌^◌, ◌<◌, arith, mul-le-mul_right}
use Rattle.bitm_tables.specs.declared.answer.Answer.{Answer}
use Rattle.bitm_tables.specs.declared.answer.Answer.TheVariants.{Found, Absent, Wrong}
use Rattle.bitm_abi.specs.Status.{IsFoundBelow}
use Rattle.levels_view.specs.Answers.{IsIndexWithin, IsRankWithin}
use Rattle.matrix_block.specs.Block.{HasLengths, MatrixParts}

-- a block holds fewer than 2^63 numbers
pub is_short : (parts : MatrixParts) → HasLengths parts → parts.levels.len < 2 ^ 63
is_short parts has = omega (arith, mul-le-mul_right parts.levels.len has.levels.numbers.some, has.levels.numbers.short)

module _ (n : ℕ) (short : n < 2 ^ 63) where
  pub rank_code : (i : ℕ) → (answer : Answer ℕ) → IsRankWithin n i answer → IsFoundBelow (2 ^ 64 - 2) answer
  rank_code i (Found c) h = omega (arith, h.0, h.1, short)
  rank_code i Absent h = tt
  rank_code i Wrong h = tt

  pub index_code : (answer : Answer ℕ) → IsIndexWithin n answer → IsFoundBelow (2 ^ 64 - 2) answer
  index_code (Found p) h = omega (arith, h, short)
  index_code Absent h = tt
  index_code Wrong h = tt
