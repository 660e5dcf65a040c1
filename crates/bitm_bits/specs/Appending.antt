-- Bits that are written one after another.
use Rattle.std.specs.Prelude.{◌≡◌, ℕ, ◌+◌, ◌≤◌, false, List, length, take}
use Rattle.std.specs.Int.{div_ceil}
use Rattle.bit_lists.specs.Bits.{bits_of, item}

-- the words are as few as have n bits, and all bits from position n on are zeros
abbrev pub AreFilledTo : List ℕ → ℕ → Type 0
AreFilledTo words n = (length words ≡ div_ceil n 64) × ((p : ℕ) → n ≤ p → item (bits_of words) p ≡ false)

-- room has the first n bits of old, then zeros, and is as few words as have count bits more
pub record HasRoom (old room : List ℕ) (n count : ℕ) : Type 0 where
  pub len : length room ≡ div_ceil (n + count) 64
  pub kept : take n (bits_of room) ≡ take n (bits_of old)
  pub zeros : (p : ℕ) → n ≤ p → item (bits_of room) p ≡ false
