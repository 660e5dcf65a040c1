-- What an iterator over the numbers of a sequence still gives, and where their ones stand.
use Rattle.std.specs.Prelude.{◌≡◌, ℕ, ◌-◌, ◌*◌, ◌<◌, ◌≤◌, List, length, take, drop}
use Rattle.bit_lists.specs.Bits.{bits_of}
use Rattle.bit_lists.specs.Count.{ones_before}
use Rattle.elias_fano.specs.Parts.{upper_position, upper_positions, width_of, ArePartsOf, IsUpper}

-- the items of a range of positions
abbrev pub items_left : List ℕ → ℕ → ℕ → List ℕ
items_left xs start end = take (end - start) (drop start xs)

-- the upper words of these items, whatever holds them, have k ones before bit first
abbrev pub HasBefore : List ℕ → ℕ → ℕ → Type 0
HasBefore xs k first = (upper : List ℕ) → IsUpper xs (width_of xs) upper → ones_before (bits_of upper) first ≡ k

-- these are the parts of a sequence, the ones that come are those from that of the item at the start of the range on,
-- and the ones of the items in the range, and of none after it, stand before bit limit
pub record IsCursor (xs : List ℕ) (n l : ℕ) (low upper : List ℕ) (start end limit : ℕ) (coming : List ℕ) : Type 0 where
  pub parts : ArePartsOf xs n l low upper
  pub order : start ≤ end
  pub within : end ≤ n
  pub room : limit ≤ 64 * length upper
  pub ones : coming ≡ drop start (upper_positions xs l n)
  pub left : (j : ℕ) → j < end → upper_position xs l j < limit
  pub after : (j : ℕ) → end ≤ j → j < n → limit ≤ upper_position xs l j
