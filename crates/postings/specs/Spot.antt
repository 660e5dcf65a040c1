-- Where a cursor over a sequence stands.
use Rattle.std.specs.Prelude.{◌≡◌, ⊤, ℕ, ◌<◌, ◌≤◌, true, List, length, slice_index}
use Rattle.std.specs.List.{All}
use Rattle.bit_lists.specs.Bits.{bits_of}
use Rattle.bit_lists.specs.Count.{ones_before, Picks}
use Rattle.elias_fano.specs.Sequence.{Reaches}
use Rattle.postings.specs.declared.spot.Spot.{Spot}
use Rattle.postings.specs.declared.near.Near.{Near}
use Rattle.postings.specs.declared.near.Near.TheVariants.{Found, Ended, Far}

-- an item's position in the list, that of its one among the words, and the item
pub record IsSpot (xs words : List ℕ) (s : Spot) : Type 0 where
  pub inside : s.at < length xs
  pub one : Picks (bits_of words) true s.at s.one
  pub number : s.number ≡ slice_index xs s.at

-- the first item that is at least v was found, or there is none, or it is not near
abbrev pub IsNear : List ℕ → List ℕ → ℕ → Near → Type 0
IsNear xs words v (Found s) = IsSpot xs words s × Reaches xs v s.at
IsNear xs words v Ended = All (λ x. x < v) xs
IsNear xs words v Far = ⊤

-- the number that is found is at least v, and one of n, whatever the parts hold
abbrev pub IsUpTo : ℕ → ℕ → Near → Type 0
IsUpTo n v (Found s) = (s.at < n) × (v ≤ s.number)
IsUpTo n v Ended = ⊤
IsUpTo n v Far = ⊤

-- the ones of so many items, all less than v, stand before a position, and no others
pub record IsBehind (xs words : List ℕ) (v at position : ℕ) : Type 0 where
  pub count : at ≤ length xs
  pub before : ones_before (bits_of words) position ≡ at
  pub less : (j : ℕ) → j < at → slice_index xs j < v
