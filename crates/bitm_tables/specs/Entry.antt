-- One entry of the lower table: four counts in one number, and what their fields are.
use Rattle.std.specs.Prelude.{◌≡◌, ℕ, zero, suc, ◌+◌, ◌-◌, ◌*◌, ◌/◌, ◌^◌, ◌%◌, ◌<◌, ◌≤◌, Bool, false, not, List, ◌++◌, length, map, min, replicate}
use Rattle.std.specs.Int.{div_ceil}
use Rattle.bit_lists.specs.Count.{ones_before, zeros_before}

-- the number of 1 bits from the start of the upper block of entry j to entry j
abbrev pub before_in_part : List Bool → ℕ → ℕ
before_in_part b j = ones_before b (2048 * j) - ones_before b ((j / 2 ^ 21) * 2 ^ 32)

-- the number of 1 bits in the first k basic blocks of entry j
abbrev pub in_records : List Bool → ℕ → ℕ → ℕ
in_records b j k = ones_before b (2048 * j + 512 * k) - ones_before b (2048 * j)

-- four counts in one number: 32, 10, 11 and 11 bits
abbrev pub packed_counts : ℕ → ℕ → ℕ → ℕ → ℕ
packed_counts r0 r1 r2 r3 = r0 + r3 * 2 ^ 32 + r2 * 2 ^ 43 + r1 * 2 ^ 54

-- entry j of the lower table over the bits b
abbrev pub lower_entry : List Bool → ℕ → ℕ
lower_entry b j = packed_counts (before_in_part b j) (in_records b j 1) (in_records b j 2) (in_records b j 3)

-- the number e is entry j of the lower table over the bits b, which has such an entry
pub record IsEntryOf (b : List Bool) (j e : ℕ) : Type 0 where
  pub inside : j < div_ceil (length b) 2048
  pub value : e ≡ lower_entry b j

-- the number of 0 bits from the start of the upper block of entry j to entry j
abbrev pub zeros_before_in_part : List Bool → ℕ → ℕ
zeros_before_in_part b j = zeros_before b (2048 * j) - zeros_before b ((j / 2 ^ 21) * 2 ^ 32)

-- ---- the fields of an entry

-- the number of 1 bits from the start of the entry's upper block to the entry
abbrev pub field_0 : ℕ → ℕ
field_0 e = e % 2 ^ 32

-- the number of 1 bits in the first basic block
abbrev pub field_1 : ℕ → ℕ
field_1 e = e / 2 ^ 54

-- the number of 1 bits in the first two basic blocks
abbrev pub field_2 : ℕ → ℕ
field_2 e = e / 2 ^ 43 % 2 ^ 11

-- the number of 1 bits in the first three basic blocks
abbrev pub field_3 : ℕ → ℕ
field_3 e = e / 2 ^ 32 % 2 ^ 11

-- the number of 1 bits in the first k basic blocks, as an entry has it
abbrev pub record_field : ℕ → ℕ → ℕ
record_field e zero = 0
record_field e (suc zero) = field_1 e
record_field e (suc (suc zero)) = field_2 e
record_field e (suc (suc (suc k))) = field_3 e

-- the number whose fields are the greatest values of those of entry j
abbrev pub greatest_entry : ℕ → ℕ
greatest_entry j = packed_counts (j % 2 ^ 21 * 2048) 512 1024 1536

-- no field of the number e exceeds its greatest value at entry j
pub record FieldsFit (e j : ℕ) : Type 0 where
  pub before : field_0 e ≤ j % 2 ^ 21 * 2048
  pub one : field_1 e ≤ 512
  pub two : field_2 e ≤ 1024
  pub three : field_3 e ≤ 1536

-- the fields of the two numbers add up to the greatest values at entry j
pub record FieldsAddUp (e f j : ℕ) : Type 0 where
  pub before : field_0 e + field_0 f ≡ j % 2 ^ 21 * 2048
  pub one : field_1 e + field_1 f ≡ 512
  pub two : field_2 e + field_2 f ≡ 1024
  pub three : field_3 e + field_3 f ≡ 1536

-- ---- the entries of an upper block, and those of the negated bits

-- how many of the given number of entries belong to an upper block
abbrev pub entries_from : ℕ → ℕ → ℕ
entries_from entries part = min (entries - part * 2 ^ 21) (2 ^ 21)

-- a less b, as numbers of 64 bits
abbrev pub less : ℕ → ℕ → ℕ
less a b = (a + (2 ^ 64 - b)) % 2 ^ 64

-- the bits, padded by 0 bits to a multiple of 2048
abbrev pub padded_bits : List Bool → List Bool
padded_bits b = b ++ replicate (div_ceil (length b) 2048 * 2048 - length b) false

-- each item negated
abbrev pub negation : List Bool → List Bool
negation b = map not b
