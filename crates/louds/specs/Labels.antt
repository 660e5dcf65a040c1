-- A tree whose nodes have labels, and words of labels that lead down it.
use Rattle.std.specs.Prelude.{◌≡◌, ℕ, ◌*◌, ◌^◌, ◌<◌, ◌≤◌, List, [], ◌∷◌, All, map, length, slice_index, Option, MatchOption}
use Rattle.std.specs.Int.{div_ceil}
use Rattle.std.specs.List.{range_with_len}
use Rattle.bit_lists.specs.Bits.{bits_of}
use Rattle.bit_lists.specs.Number.{number_at}
use Rattle.louds.specs.Tree.{IsChild, IsNextSibling}

-- the n numbers of `width` digits that words hold
abbrev pub numbers_of : List ℕ → ℕ → ℕ → List ℕ
numbers_of words width n = map (λ i. number_at (bits_of words) (i * width) width) (range_with_len 0 n)

-- there are as many words as n numbers of `width` digits take
pub record HasLabelRoom (words : List ℕ) (width n : ℕ) : Type 0 where
  pub some : 1 ≤ width
  pub few : width ≤ 63
  pub short : n * width < 2 ^ 64
  pub tight : length words ≡ div_ceil (n * width) 64

-- what packed numbers are seen as
pub record PackedNumbers : Type 0 where
  pub items : List ℕ
  pub width : ℕ

-- the labels of siblings rise
abbrev pub Rise : List ℕ → List ℕ → Type 0
Rise d ls = (v w : ℕ) → IsNextSibling d v w → slice_index ls v < slice_index ls w

-- there is a label of at most `width` digits for each node, and those of siblings rise
pub record AreLabels (d ls : List ℕ) (width : ℕ) : Type 0 where
  pub count : length ls ≡ length d
  pub fit : All (λ x. x < 2 ^ width) ls
  pub rise : Rise d ls

-- node u is a child of node i, and has the label c
abbrev pub IsChildWith : List ℕ → List ℕ → ℕ → ℕ → ℕ → Type 0
IsChildWith d ls i c u = ((k : ℕ) × IsChild d i k u) × (slice_index ls u ≡ c)

-- a child of node i with the label c, and None exactly where none has it
abbrev pub MatchesChildWith : List ℕ → List ℕ → ℕ → ℕ → Option ℕ → Type 0
MatchesChildWith d ls i c o = MatchOption o ((u : ℕ) → IsChildWith d ls i c u → ⊥) (IsChildWith d ls i c)

-- the labels of the nodes on the way down from node i, without its own, to node v are the word
abbrev pub Leads : List ℕ → List ℕ → List ℕ → ℕ → ℕ → Type 0
Leads d ls [] i v = i ≡ v
Leads d ls (c ∷ word) i v = (u : ℕ) × IsChildWith d ls i c u × Leads d ls word u v

-- the node to which a word leads from the root, and None exactly where it leads to none
abbrev pub MatchesWord : List ℕ → List ℕ → List ℕ → Option ℕ → Type 0
MatchesWord d ls word o = MatchOption o ((v : ℕ) → Leads d ls word 0 v → ⊥) (Leads d ls word 0)

-- what a tree with labels is seen as
pub record LabelledValue (S S0 : Type 0) : Type 0 where
  pub degrees : List ℕ
  pub labels : List ℕ
  pub width : ℕ
  pub select : S
  pub select0 : S0
