-- Nodes that carry a position among the bits.
use Rattle.std.specs.Prelude.{◌≡◌, ℕ, ◌<◌, ◌≤◌, ◌⊎◌, List, length, slice_index, Option, MatchOption}
use Rattle.bitm_tables.specs.Answers.{Right}
use Rattle.bitm_tables.specs.declared.answer.Answer.{Answer}
use Rattle.bitm_tables.specs.declared.answer.Answer.TheVariants.{Found, Absent, Wrong}
use Rattle.louds.specs.Held.{zero_position}
use Rattle.louds.specs.Tree.{IsChild, IsLastChild, IsNextSibling}

-- a number, and a position among the bits of a tree
pub record NodeValue : Type 0 where
  pub number : ℕ
  pub position : ℕ

-- there is a node of this number, and at the position stands the zero before its ones
pub record IsNode (d : List ℕ) (v : NodeValue) : Type 0 where
  pub inside : v.number < length d
  pub position : v.position ≡ zero_position d v.number

-- child k of node i with its position, and None exactly where i has no more than k children
abbrev pub MatchesChildNode : List ℕ → ℕ → ℕ → Option NodeValue → Type 0
MatchesChildNode d i k o = MatchOption o (slice_index d i ≤ k) (λ v. IsNode d v × IsChild d i k v.number)

-- the parent of node v with its position, and None exactly at the root
abbrev pub MatchesParentNode : List ℕ → ℕ → Option NodeValue → Type 0
MatchesParentNode d v o = MatchOption o (v ≡ 0) (λ i. IsNode d i × (i.number < v) × ((k : ℕ) × IsChild d i.number k v))

-- of n nodes, in memory that may hold anything: a parent is a node before v, and Absent is answered exactly at the root
-- and where v is no node
abbrev pub IsParentNodeWithin : ℕ → ℕ → Answer NodeValue → Type 0
IsParentNodeWithin n v (Found p) = (p.number < v) × (v < n)
IsParentNodeWithin n v Absent = (v ≡ 0) ⊎ (n ≤ v)
IsParentNodeWithin n v Wrong = (0 < v) × (v < n)

-- the parent of node v with its position, and Absent exactly at the root and where v is no node
abbrev pub IsParentNodeOf : List ℕ → ℕ → Answer NodeValue → Type 0
IsParentNodeOf d v =
    Right (λ p. IsNode d p × (p.number < v) × ((k : ℕ) × IsChild d p.number k v)) ((v ≡ 0) ⊎ (length d ≤ v))

-- the next child of the parent of v with its position, and None exactly where v is the last one or the root
abbrev pub MatchesNextSiblingNode : List ℕ → ℕ → Option NodeValue → Type 0
MatchesNextSiblingNode d v o = MatchOption o (IsLastChild d v) (λ w. IsNode d w × IsNextSibling d v w.number)
