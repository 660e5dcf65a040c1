-- Hashes fall inside their levels: what the impls of `Placing` show.
use Rattle.std.proofs.Common.{ℕ, ◌+◌, ◌*◌, ◌/◌, ◌%◌, ◌^◌, ◌<◌, List, slice_index, arith}
use Rattle.std.proofs.lemmas.Nat.{div_below, mul-le}
use Rattle.perfect_hash.specs.Positions.{bit_by, position_by, position_in, spread}

-- a fraction of n is less than n
pub fraction_below : (x n : ℕ) → x < 2 ^ 64 → 0 < n → x * n / 2 ^ 64 < n
fraction_below x n less some = div_below (x * n) (2 ^ 64) n (omega arith) (product x n less some)
  where
    product : (y m : ℕ) → y < 2 ^ 64 → 0 < m → y * m < m * 2 ^ 64
    product y m below positive = omega (arith, mul-le y m 18446744073709551615 m (omega arith) (omega arith))

-- a hash falls inside each level
pub falls_inside : (hash level words : ℕ) → 0 < words → position_in hash level words < 64 * words
unfolding position_in
falls_inside hash level words some = fraction_below (spread hash level % 2 ^ 64) (64 * words) (omega arith) (omega arith)

-- a seed's bit is inside its word
pub bit_inside : (seed x : ℕ) → bit_by seed x < 64
unfolding bit_by
bit_inside seed x = omega arith

-- and with seeds too
pub positions_inside : (seeds : List ℕ) (begin hash level words : ℕ) → 0 < words → position_by seeds begin hash level words < 64 * words
unfolding position_by
positions_inside seeds begin hash level words some =
    let word = spread hash level % 2 ^ 64 * words / 2 ^ 64 in
    omega (arith, fraction_below (spread hash level % 2 ^ 64) words (omega arith) some, bit_inside (slice_index seeds (begin + word)) (spread hash level))
