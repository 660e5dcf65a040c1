-- Numbers of a few bytes.
use Rattle.std.proofs.Common.{◌≡◌, ℕ, zero, suc, ◌+◌, ◌*◌, ◌%◌, ◌^◌, ◌<◌, arith}

-- a byte more fits, and is shifted to its position
pub record IsShifted (number byte j : ℕ) : Type 0 where
  pub shifted : byte * 2 ^ (8 * j) % 2 ^ 64 ≡ byte * 256 ^ j
  pub fits : number + byte * 256 ^ j < 2 ^ 64
  pub bound : number + byte * 256 ^ j < 256 ^ (j + 1)

pub is_shifted : (number byte j : ℕ) → number < 256 ^ j → byte < 256 → j < 8 → IsShifted number byte j
is_shifted number byte zero low small less = record { shifted = omega arith; fits = omega arith; bound = omega arith }
is_shifted number byte (suc zero) low small less = record { shifted = omega arith; fits = omega arith; bound = omega arith }
is_shifted number byte (suc (suc zero)) low small less = record { shifted = omega arith; fits = omega arith; bound = omega arith }
is_shifted number byte (suc (suc (suc zero))) low small less = record { shifted = omega arith; fits = omega arith; bound = omega arith }
is_shifted number byte (suc (suc (suc (suc zero)))) low small less = record { shifted = omega arith; fits = omega arith; bound = omega arith }
is_shifted number byte (suc (suc (suc (suc (suc zero))))) low small less = record { shifted = omega arith; fits = omega arith; bound = omega arith }
is_shifted number byte (suc (suc (suc (suc (suc (suc zero)))))) low small less = record { shifted = omega arith; fits = omega arith; bound = omega arith }
is_shifted number byte (suc (suc (suc (suc (suc (suc (suc zero))))))) low small less = record { shifted = omega arith; fits = omega arith; bound = omega arith }
is_shifted number byte (suc (suc (suc (suc (suc (suc (suc (suc j)))))))) low small less = absurd (omega (arith, less))

-- fewer than eight bytes are less than the highest one
pub below_highest : (number n : ℕ) → number < 256 ^ n → n < 8 → number < 2 ^ 56
below_highest number zero low less = omega arith
below_highest number (suc zero) low less = omega arith
below_highest number (suc (suc zero)) low less = omega arith
below_highest number (suc (suc (suc zero))) low less = omega arith
below_highest number (suc (suc (suc (suc zero)))) low less = omega arith
below_highest number (suc (suc (suc (suc (suc zero))))) low less = omega arith
below_highest number (suc (suc (suc (suc (suc (suc zero)))))) low less = omega arith
below_highest number (suc (suc (suc (suc (suc (suc (suc zero))))))) low less = omega arith
below_highest number (suc (suc (suc (suc (suc (suc (suc (suc n)))))))) low less = absurd (omega (arith, less))
