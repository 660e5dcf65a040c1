-- What the definitions say of one another. Each law is the contract of a function of `laws`.
use Rattle.std.specs.Prelude.{◌≡◌, ℕ, ◌+◌, ◌<◌, ◌↔◌, List, length, sum}
use Rattle.louds.specs.Above.{IsAbove}
use Rattle.louds.specs.Tree.{IsTree, IsChild}

-- a node is a child of one node alone, at one position
abbrev pub OneParent : Type 0
OneParent = (d : List ℕ) (i j k l v : ℕ) → IsChild d i k v → IsChild d j l v → (i ≡ j) × (k ≡ l)

-- a list of degrees is a tree exactly where it has one child for each node but the root, and each of these is a child
-- of a node before it
abbrev pub TreesHaveParents : Type 0
TreesHaveParents =
    (d : List ℕ) → IsTree d
    ↔ ((sum d + 1 ≡ length d) × ((v : ℕ) → 0 < v → v < length d → (i : ℕ) × (k : ℕ) × (i < v) × IsChild d i k v))

-- a node stands one number of levels below the root
abbrev pub OneDepth : Type 0
OneDepth = (d : List ℕ) (n m v : ℕ) → IsAbove d n 0 v → IsAbove d m 0 v → n ≡ m
