-- Ways up and down a tree.
use Rattle.std.specs.Prelude.{◌≡◌, ℕ, ◌<◌, ◌≤◌, ◌↔◌, List, zero, suc}
use Rattle.louds.specs.Tree.{IsChild}

-- node a stands n levels above node v: v is a for 0, and else its parent stands one level less below a
abbrev pub IsAbove : List ℕ → ℕ → ℕ → ℕ → Type 0
IsAbove d zero a v = a ≡ v
IsAbove d (suc n) a v = (i : ℕ) × (k : ℕ) × IsChild d i k v × IsAbove d n a i

-- node a is node v or one above it
abbrev pub IsAncestor : List ℕ → ℕ → ℕ → Type 0
IsAncestor d a v = (n : ℕ) × IsAbove d n a v

-- node a is both nodes' ancestor, or one of them, and each such node is an ancestor of a, or a
pub record IsLowestCommon (d : List ℕ) (u v a : ℕ) : Type 0 where
  pub one : IsAncestor d a u
  pub other : IsAncestor d a v
  pub lowest : (x : ℕ) → IsAncestor d x u → IsAncestor d x v → IsAncestor d x a

-- node a is the first on the way up from v whose number is at most b
pub record IsClimbed (d : List ℕ) (v b a : ℕ) : Type 0 where
  pub low : a ≤ b
  pub above : IsAncestor d a v
  pub first : (x : ℕ) → x ≤ b → IsAncestor d x v → IsAncestor d x a

-- the nodes from `first` on and before `past` are the children of those from a on and before b
abbrev pub AreBelow : List ℕ → ℕ → ℕ → ℕ → ℕ → Type 0
AreBelow d a b first past =
    (v : ℕ) → ((first ≤ v) × (v < past)) ↔ ((i : ℕ) × (k : ℕ) × (a ≤ i) × (i < b) × IsChild d i k v)
