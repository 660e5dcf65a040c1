-- A bit, a count and a position of sparse bits is no code: there may be more of these than of any other structure.
use Rattle.std.proofs.Common.{◌≡◌, ℕ, ◌-◌, ◌^◌, ◌<◌, arith}
use Rattle.bitm_tables.specs.declared.answer.Answer.{Answer}
use Rattle.bitm_tables.specs.declared.answer.Answer.TheVariants.{Found, Absent, Wrong}
use Rattle.elias_fano.specs.Answers.{IsIndexIn}
use Rattle.tables_view.specs.Ranks.{IsCountWithin}
use Rattle.bitm_abi.specs.Status.{IsFoundBelow}

pub bit_code : (answer : Answer ℕ) → IsFoundBelow 2 answer → IsFoundBelow (2 ^ 64 - 2) answer
bit_code (Found n) h = omega (arith, h)
bit_code Absent h = tt
bit_code Wrong h = tt

module _ (n : ℕ) (short : n < 2 ^ 64 - 2) where
  pub count_code : (i : ℕ) → (answer : Answer ℕ) → IsCountWithin n i answer → IsFoundBelow (2 ^ 64 - 2) answer
  count_code i (Found c) h = omega (arith, h.0, h.1, short)
  count_code i Absent h = tt
  count_code i Wrong h = tt

  pub position_code : (answer : Answer ℕ) → IsIndexIn n answer → IsFoundBelow (2 ^ 64 - 2) answer
  position_code (Found p) h = omega (arith, h, short)
  position_code Absent h = tt
  position_code Wrong h = tt
