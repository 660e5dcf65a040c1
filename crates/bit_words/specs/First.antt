-- The first bits of words, and the nearest bit of a kind among them.
use Rattle.std.specs.Prelude.{◌≡◌, ℕ, ◌<◌, ◌≤◌, Bool, not, List, length, take, Option, MatchOption}
use Rattle.bit_lists.specs.Bits.{bits_of, item}
use Rattle.bit_lists.specs.Count.{IsFirstFrom}

-- the first len bits of words
abbrev pub first_bits : List ℕ → ℕ → List Bool
first_bits words len = take len (bits_of words)

-- p is the greatest position up to s whose bit is v; s may be past the end
pub record IsLastUpTo (b : List Bool) (v : Bool) (s p : ℕ) : Type 0 where
  pub up_to : p ≤ s
  pub inside : p < length b
  pub bit : item b p ≡ v
  pub greatest : (i : ℕ) → p < i → i ≤ s → i < length b → item b i ≡ not v

-- the least position from s on whose bit is v, and None exactly where there is none
abbrev pub MatchesNext : List Bool → Bool → ℕ → Option ℕ → Type 0
MatchesNext b v s o = MatchOption o ((p : ℕ) → s ≤ p → p < length b → item b p ≡ not v) (IsFirstFrom b v s)

-- the greatest position up to s whose bit is v, and None exactly where there is none
abbrev pub MatchesPrevious : List Bool → Bool → ℕ → Option ℕ → Type 0
MatchesPrevious b v s o = MatchOption o ((p : ℕ) → p ≤ s → p < length b → item b p ≡ not v) (IsLastUpTo b v s)
