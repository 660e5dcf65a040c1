-- What is answered of a tree in memory that may hold anything, and in that of a tree.
use Rattle.std.specs.Prelude.{◌≡◌, ⊤, ℕ, ◌+◌, ◌<◌, ◌≤◌, ◌⊎◌, ◌==◌, Bool, List, length, slice_index}
use Rattle.bitm_tables.specs.Answers.{Right}
use Rattle.bitm_tables.specs.declared.answer.Answer.{Answer}
use Rattle.bitm_tables.specs.declared.answer.Answer.TheVariants.{Found, Absent, Wrong}
use Rattle.louds.specs.Tree.{AreChildren, IsChild, IsFirstChild, IsLastChild, IsNextSibling}

-- of n nodes: a parent is a node before v, and Absent is answered exactly at the root and where v is no node
abbrev pub IsParentWithin : ℕ → ℕ → Answer ℕ → Type 0
IsParentWithin n v (Found p) = (p < v) × (v < n)
IsParentWithin n v Absent = (v ≡ 0) ⊎ (n ≤ v)
IsParentWithin n v Wrong = (0 < v) × (v < n)

-- the parent of node v, and Absent exactly at the root and where v is no node
abbrev pub IsParentOf : List ℕ → ℕ → Answer ℕ → Type 0
IsParentOf d v = Right (λ p. (p < v) × ((k : ℕ) × IsChild d p k v)) ((v ≡ 0) ⊎ (length d ≤ v))

-- of n nodes: a child is a node after i
abbrev pub IsChildWithin : ℕ → ℕ → Answer ℕ → Type 0
IsChildWithin n i (Found c) = (i < c) × (c < n)
IsChildWithin n i Absent = ⊤
IsChildWithin n i Wrong = i < n

-- child k of node i, and Absent exactly where i has no more than k children or is no node
abbrev pub IsChildOf : List ℕ → ℕ → ℕ → Answer ℕ → Type 0
IsChildOf d i k = Right (λ c. IsChild d i k c) ((length d ≤ i) ⊎ (slice_index d i ≤ k))

-- of n nodes: the nodes from the first of the two numbers on, and before the second, are nodes after i, and Absent is
-- answered exactly where i is no node
abbrev pub AreChildrenWithin : ℕ → ℕ → Answer (ℕ × ℕ) → Type 0
AreChildrenWithin n i (Found run) = (i < run.0) × (run.0 ≤ run.1) × (run.1 ≤ n)
AreChildrenWithin n i Absent = n ≤ i
AreChildrenWithin n i Wrong = i < n

-- they are the children of node i, in their order, and Absent exactly where i is no node
abbrev pub AreChildrenOf : List ℕ → ℕ → Answer (ℕ × ℕ) → Type 0
AreChildrenOf d i = Right (λ run. AreChildren d i run.0 run.1) (length d ≤ i)

-- of n nodes: a node has fewer children, and Absent is answered exactly where i is no node
abbrev pub IsDegreeWithin : ℕ → ℕ → Answer ℕ → Type 0
IsDegreeWithin n i (Found k) = (i < n) × (k < n)
IsDegreeWithin n i Absent = n ≤ i
IsDegreeWithin n i Wrong = i < n

-- how many children node i has, and Absent exactly where i is no node
abbrev pub IsDegreeOf : List ℕ → ℕ → Answer ℕ → Type 0
IsDegreeOf d i = Right (λ k. k ≡ slice_index d i) (length d ≤ i)

-- of n nodes: Absent is answered exactly where i is no node
abbrev pub IsLeafWithin : ℕ → ℕ → Answer Bool → Type 0
IsLeafWithin n i (Found leaf) = i < n
IsLeafWithin n i Absent = n ≤ i
IsLeafWithin n i Wrong = i < n

-- whether node i has no children, and Absent exactly where i is no node
abbrev pub IsLeafOf : List ℕ → ℕ → Answer Bool → Type 0
IsLeafOf d i = Right (λ leaf. leaf ≡ (slice_index d i == 0)) (length d ≤ i)

-- of n nodes: a next sibling of v is the node after it
abbrev pub IsNextSiblingWithin : ℕ → ℕ → Answer ℕ → Type 0
IsNextSiblingWithin n v (Found w) = (w ≡ v + 1) × (w < n)
IsNextSiblingWithin n v Absent = ⊤
IsNextSiblingWithin n v Wrong = v < n

-- the next child of the parent of node v, and Absent exactly where v is the last one, the root or no node
abbrev pub IsNextSiblingOf : List ℕ → ℕ → Answer ℕ → Type 0
IsNextSiblingOf d v = Right (λ w. IsNextSibling d v w) ((length d ≤ v) ⊎ IsLastChild d v)

-- of n nodes: a previous sibling of v is the node before it
abbrev pub IsPreviousSiblingWithin : ℕ → ℕ → Answer ℕ → Type 0
IsPreviousSiblingWithin n v (Found u) = (u + 1 ≡ v) × (v < n)
IsPreviousSiblingWithin n v Absent = ⊤
IsPreviousSiblingWithin n v Wrong = (0 < v) × (v < n)

-- the child before node v of its parent, and Absent exactly where v is the first one, the root or no node
abbrev pub IsPreviousSiblingOf : List ℕ → ℕ → Answer ℕ → Type 0
IsPreviousSiblingOf d v = Right (λ u. IsNextSibling d u v) ((length d ≤ v) ⊎ IsFirstChild d v)

-- of n nodes: a node is a child of a rank below n, and Absent is answered exactly at the root and where v is no node
abbrev pub IsChildRankWithin : ℕ → ℕ → Answer ℕ → Type 0
IsChildRankWithin n v (Found k) = (k < n) × (0 < v) × (v < n)
IsChildRankWithin n v Absent = (v ≡ 0) ⊎ (n ≤ v)
IsChildRankWithin n v Wrong = (0 < v) × (v < n)

-- which child of its parent node v is, and Absent exactly at the root and where v is no node
abbrev pub IsChildRankOf : List ℕ → ℕ → Answer ℕ → Type 0
IsChildRankOf d v = Right (λ k. (i : ℕ) × IsChild d i k v) ((v ≡ 0) ⊎ (length d ≤ v))
