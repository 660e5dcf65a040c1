-- What the exported calls answer of the first bits of words: a status, and what is written where the caller says.
use Rattle.std.specs.Prelude.{◌≡◌, ◌≢◌, ℕ, ◌<◌, ◌≤◌, ◌↔◌, ◌⊎◌, Bool, not, List, length}
use Rattle.bit_lists.specs.Bits.{item}
use Rattle.bit_lists.specs.Count.{IsFirstFrom}
use Rattle.bit_words.specs.First.{first_bits, IsLastUpTo}
use Rattle.bitm_abi.specs.Lengths.{HasCountedBits}

-- a status is 2 exactly where the lengths do not fit; where they do, it is 0 exactly where `inside` holds, and else 1
pub record IsStatus (sized inside : Type 0) (status : ℕ) : Type 0 where
  pub bad : (status ≡ 2) ↔ ¬ sized
  pub ok : (status ≡ 0) ↔ (sized × inside)
  pub none : (status ≡ 1) ↔ (sized × (¬ inside))
  pub known : (status ≡ 0) ⊎ (status ≡ 1) ⊎ (status ≡ 2)

-- the first bit v from a position on: the status, and the position before and after the call
pub record NextAnswered (v : Bool) (words : List ℕ) (bits_len from status old new : ℕ) : Type 0 where
  pub unchanged : status ≢ 0 → new ≡ old
  pub bad : ¬ (HasCountedBits words bits_len) → status ≡ 2
  pub good : HasCountedBits words bits_len → (status ≡ 0) ⊎ (status ≡ 1)
  pub found : status ≡ 0 → IsFirstFrom (first_bits words bits_len) v from new
  pub none : status ≡ 1 → (p : ℕ) → from ≤ p → p < length (first_bits words bits_len) → item (first_bits words bits_len) p ≡ not v

-- the last bit v up to a position, which may be past the end: the status, and the position before and after the call
pub record PreviousAnswered (v : Bool) (words : List ℕ) (bits_len from status old new : ℕ) : Type 0 where
  pub unchanged : status ≢ 0 → new ≡ old
  pub bad : ¬ (HasCountedBits words bits_len) → status ≡ 2
  pub good : HasCountedBits words bits_len → (status ≡ 0) ⊎ (status ≡ 1)
  pub found : status ≡ 0 → IsLastUpTo (first_bits words bits_len) v from new
  pub none : status ≡ 1 → (p : ℕ) → p ≤ from → p < length (first_bits words bits_len) → item (first_bits words bits_len) p ≡ not v
