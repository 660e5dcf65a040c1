-- What is left of a word.
use Rattle.std.specs.Prelude.{◌≡◌, ℕ, ◌+◌, ◌-◌, ◌*◌, ◌/◌, ◌^◌, ◌<◌, ◌≤◌, List, length, slice_index}

-- rest is word q of these from bit s of them on, with zeros in the place of the bits before
pub record IsRestFrom (words : List ℕ) (s q rest : ℕ) : Type 0 where
  pub inside : q < length words
  pub begin : 64 * q ≤ s
  pub end : s ≤ 64 * q + 64
  pub is : rest ≡ slice_index words q / 2 ^ (s - 64 * q) * 2 ^ (s - 64 * q)
