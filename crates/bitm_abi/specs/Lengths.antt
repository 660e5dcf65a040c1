-- Whether words of the caller have the bits that a call needs.
use Rattle.std.specs.Prelude.{ℕ, ◌+◌, ◌*◌, ◌^◌, ◌<◌, ◌≤◌, List, length}
use Rattle.bit_lists.specs.Bits.{IsShort}

-- the words have bits_len bits
abbrev pub HasBits : List ℕ → ℕ → Type 0
HasBits words bits_len = bits_len ≤ 64 * length words

-- and are fewer than 2^58
pub record HasCountedBits (words : List ℕ) (bits_len : ℕ) : Type 0 where
  pub short : IsShort words
  pub bits : HasBits words bits_len

-- the count bits from begin on are in the words, and end at a position of 64 bits
abbrev pub HasRange : List ℕ → ℕ → ℕ → Type 0
HasRange words begin count = (begin + count < 2 ^ 64) × (begin + count ≤ 64 * length words)
