-- A tree as the list of its nodes' degrees, level by level from the root, node 0.
use Rattle.std.specs.Prelude.{◌≡◌, ℕ, ◌+◌, ◌-◌, ◌<◌, ◌≤◌, ◌⊎◌, List, length, take, slice_index, sum, Option, MatchOption}

-- node v is child k of node i: its number is 1, the number of children of all nodes before i, and k
pub record IsChild (d : List ℕ) (i k v : ℕ) : Type 0 where
  pub node : i < length d
  pub some : k < slice_index d i
  pub number : v ≡ 1 + sum (take i d) + k

-- there is one child for each node but the root, and each node v but the root is a child of a node before it: the first
-- v nodes have at least v children
pub record IsTree (d : List ℕ) : Type 0 where
  pub count : sum d + 1 ≡ length d
  pub parents : (v : ℕ) → 0 < v → v < length d → v ≤ sum (take v d)

-- with the children of the nodes before it or with its own, node i fits no tree: it is no child of these nodes, or there are
-- more nodes than degrees
pub record IsMisfit (d : List ℕ) (i : ℕ) : Type 0 where
  pub node : i < length d
  pub misfit : (sum (take i d) < i) ⊎ (length d ≤ sum (take (i + 1) d))

-- child k of node i, and None exactly where i has no more than k children
abbrev pub MatchesChild : List ℕ → ℕ → ℕ → Option ℕ → Type 0
MatchesChild d i k o = MatchOption o (slice_index d i ≤ k) (IsChild d i k)

-- the parent of node v, a node before it, and None exactly at the root
abbrev pub MatchesParent : List ℕ → ℕ → Option ℕ → Type 0
MatchesParent d v o = MatchOption o (v ≡ 0) (λ i. (i < v) × ((k : ℕ) × IsChild d i k v))

-- which child of its parent node v is, and None exactly at the root
abbrev pub MatchesChildRank : List ℕ → ℕ → Option ℕ → Type 0
MatchesChildRank d v o = MatchOption o (v ≡ 0) (λ k. (i : ℕ) × IsChild d i k v)

-- w is the next child of the parent of v
abbrev pub IsNextSibling : List ℕ → ℕ → ℕ → Type 0
IsNextSibling d v w = (i : ℕ) × (k : ℕ) × IsChild d i k v × IsChild d i (k + 1) w

-- v is the last child of any parent that it has
abbrev pub IsLastChild : List ℕ → ℕ → Type 0
IsLastChild d v = (i k : ℕ) → IsChild d i k v → k + 1 ≡ slice_index d i

-- the next child of the parent of v, and None exactly where v is the last one or the root
abbrev pub MatchesNextSibling : List ℕ → ℕ → Option ℕ → Type 0
MatchesNextSibling d v o = MatchOption o (IsLastChild d v) (IsNextSibling d v)

-- v is the first child of any parent that it has
abbrev pub IsFirstChild : List ℕ → ℕ → Type 0
IsFirstChild d v = (i k : ℕ) → IsChild d i k v → k ≡ 0

-- the child before v of its parent, and None exactly where v is the first one or the root
abbrev pub MatchesPreviousSibling : List ℕ → ℕ → Option ℕ → Type 0
MatchesPreviousSibling d v o = MatchOption o (IsFirstChild d v) (λ u. IsNextSibling d u v)

-- the last child of node i, and None exactly where i has none
abbrev pub MatchesLastChild : List ℕ → ℕ → Option ℕ → Type 0
MatchesLastChild d i o = MatchOption o (slice_index d i ≡ 0) (IsChild d i (slice_index d i - 1))

-- the nodes from `first` on and before `past` are the children of node i, in their order
pub record AreChildren (d : List ℕ) (i first past : ℕ) : Type 0 where
  pub count : past ≡ first + slice_index d i
  pub each : (k : ℕ) → k < slice_index d i → IsChild d i k (first + k)
