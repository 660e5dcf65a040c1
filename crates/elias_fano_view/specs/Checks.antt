-- The numbers that two vectors hold, and whether those rise that have the same high bits.
use Rattle.std.specs.Prelude.{◌≡◌, ℕ, ◌+◌, ◌-◌, ◌*◌, ◌^◌, ◌<◌, ◌≤◌, Bool, true, List, slice_index}
use Rattle.bit_lists.specs.Bits.{bits_of, item}
use Rattle.bit_lists.specs.Count.{ones_before, bit_positions}
use Rattle.bit_lists.specs.Number.{number_at}

-- the low bits of number j, l of them
abbrev pub low_item : ℕ → List ℕ → ℕ → ℕ
low_item l low j = number_at (bits_of low) (j * l) l

-- number j: its high bits, followed by its low bits
abbrev pub held_item : ℕ → List ℕ → List ℕ → ℕ → ℕ
held_item l low words j = (slice_index (bit_positions true 0 (bits_of words)) j - j) * 2 ^ l + low_item l low j

-- the first k numbers do not fall, each is below 2^64, and the last of them is `last`, which is 0 where there is none
pub record AreFirstNumbers (l : ℕ) (low words : List ℕ) (k last : ℕ) : Type 0 where
  pub rising : (i j : ℕ) → i ≤ j → j < k → held_item l low words i ≤ held_item l low words j
  pub small : (j : ℕ) → j < k → held_item l low words j < 2 ^ 64
  pub last_is : 0 < k → last ≡ held_item l low words (k - 1)
  pub none : k ≡ 0 → last ≡ 0

-- a 1 bit at position p, right after another: their numbers have the same high bits
abbrev pub FollowsOne : List Bool → ℕ → Type 0
FollowsOne b p = (0 < p) × (item b (p - 1) ≡ true) × (item b p ≡ true)

-- where a 1 bit from position s on and before position e follows another, the low bits rise by gap or more
abbrev pub NeighboursRise : ℕ → ℕ → List ℕ → List ℕ → ℕ → ℕ → Type 0
NeighboursRise gap l low words s e =
    (p : ℕ) → s ≤ p → p < e → FollowsOne (bits_of words) p
    → low_item l low (ones_before (bits_of words) p - 1) + gap ≤ low_item l low (ones_before (bits_of words) p)
