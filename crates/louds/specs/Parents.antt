-- A tree as the list of its nodes' parents.
use Rattle.std.specs.Prelude.{◌≡◌, ℕ, ◌+◌, ◌<◌, ◌≤◌, List, length, slice_index}
use Rattle.louds.specs.Tree.{IsChild}

-- the parents of the nodes from 1 on, of a tree whose nodes are numbered level by level: each is a node before its
-- child, and none is less than that of the node before
pub record AreParents (ps : List ℕ) : Type 0 where
  pub before : (v : ℕ) → v < length ps → slice_index ps v ≤ v
  pub rising : (v : ℕ) → v + 1 < length ps → slice_index ps v ≤ slice_index ps (v + 1)

-- the tree has the root and one node for each parent, of which that is the parent
pub record HasParents (d ps : List ℕ) : Type 0 where
  pub count : length d ≡ length ps + 1
  pub each : (v : ℕ) → v < length ps → (k : ℕ) × IsChild d (slice_index ps v) k (v + 1)
