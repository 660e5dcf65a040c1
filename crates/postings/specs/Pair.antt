-- Two sequences, each from one of its numbers on, and a block of numbers of one.
use Rattle.std.specs.Prelude.{ℕ, ◌+◌, ◌≤◌, List, [], ◌∷◌, length, drop}
use Rattle.elias_fano_view.specs.Lists.{AreItemsFrom}

-- the numbers of two sequences, from position p of the one and position q of the other on
abbrev pub pair_from : List ℕ → ℕ → List ℕ → ℕ → List (List ℕ)
pair_from xs p ys q = drop p xs ∷ drop q ys ∷ []

-- a block that begins with the n numbers of the sequence from that position on
pub record IsBlockOf (xs : List ℕ) (from n : ℕ) (block : List ℕ) : Type 0 where
  pub within : from + n ≤ length xs
  pub items : AreItemsFrom xs from n block
