-- A table beside the two of an index: for each basic block of 512 bits the number of 1 bits before it, and in it before
-- each of its quarters.
use Rattle.std.specs.Prelude.{◌≡◌, ℕ, ◌+◌, ◌-◌, ◌*◌, ◌/◌, ◌^◌, ◌%◌, ◌<◌, Bool, List, length, slice_index}
use Rattle.std.specs.Int.{div_ceil}
use Rattle.bit_lists.specs.Count.{ones_before}

-- the number of 1 bits from the start of its upper block to a basic block, as its number has it
abbrev pub record_count : ℕ → ℕ
record_count e = e % 2 ^ 32

-- the number of 1 bits in a basic block before its quarter q, as its number has it: ten bits for each quarter, the
-- first quarter's highest and 0
abbrev pub quarter_count : ℕ → ℕ → ℕ
quarter_count e q = e / 2 ^ (62 - 10 * q) % 2 ^ 10

-- a number for each basic block of the bits b, whole or partial, which has the number of 1 bits before it in its upper
-- block, and in it before each quarter that has a bit
pub record AreQuartersOf (b : List Bool) (quarters : List ℕ) : Type 0 where
  pub len : length quarters ≡ div_ceil (length b) 512
  pub counts : (r q : ℕ) → q < 4 → 512 * r + 128 * q < length b → let e = slice_index quarters r in
      ones_before b (r / 2 ^ 23 * 2 ^ 32) + record_count e + quarter_count e q ≡ ones_before b (512 * r + 128 * q)
