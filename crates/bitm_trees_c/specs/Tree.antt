-- A tree in a block as C passes it, and what the exported calls answer.
use Rattle.std.specs.Prelude.{ℕ}
use Rattle.bitm_tables.specs.declared.answer.Answer.{Answer}
use Rattle.bitm_abi.specs.Status.{truth_of, Exported, IsFoundBelow}
use Rattle.bitm_abi.specs.Tree.{tree_parts}
use Rattle.bitm_abi.specs.declared.tree.Tree.{Tree}
use Rattle.louds.specs.Counted.{degrees_in}
use Rattle.louds.specs.Answers.{IsChildRankOf, IsChildRankWithin, IsLeafOf, IsLeafWithin, IsNextSiblingOf, IsNextSiblingWithin, IsPreviousSiblingOf, IsPreviousSiblingWithin}
use Rattle.tree_block.specs.Block.{HasLengths, HoldsIn, TreeParts}
pub use Rattle.tree_block.specs.Codes.{without_hints, IsChildAnswer, IsDegree, IsParent}
use Rattle.bitm_trees_c.specs.declared.tree_lists.Asked.{Asked}
use Rattle.bitm_trees_c.specs.declared.tree_lists.Asked.TheVariants.{Parent, Degree}

-- A status is 0 where the answer was written, 1 where there is no such node, 2 where a length is wrong, and 3 where the
-- words, tables and hints are not those of a tree.

-- whether a node has no children, as 0 or 1
pub record IsLeaf (node : ℕ) (parts : TreeParts) (answer : Answer ℕ) : Type 0 where
  pub truth : IsFoundBelow 2 answer
  pub inside : IsLeafWithin parts.len node (truth_of answer)
  pub right : HoldsIn parts → IsLeafOf (degrees_in parts.len parts.lists) node (truth_of answer)

-- the siblings of a node, likewise: the node after it and the node before it
pub record IsNextSiblingAnswer (node : ℕ) (parts : TreeParts) (answer : Answer ℕ) : Type 0 where
  pub inside : IsNextSiblingWithin parts.len node answer
  pub right : HoldsIn parts → IsNextSiblingOf (degrees_in parts.len parts.lists) node answer

pub record IsPreviousSibling (node : ℕ) (parts : TreeParts) (answer : Answer ℕ) : Type 0 where
  pub inside : IsPreviousSiblingWithin parts.len node answer
  pub right : HoldsIn parts → IsPreviousSiblingOf (degrees_in parts.len parts.lists) node answer

-- which child of its parent a node is, likewise: less than there are nodes
pub record IsChildRank (node : ℕ) (parts : TreeParts) (answer : Answer ℕ) : Type 0 where
  pub inside : IsChildRankWithin parts.len node answer
  pub right : HoldsIn parts → IsChildRankOf (degrees_in parts.len parts.lists) node answer

-- the answer to a query of a node
abbrev pub IsTreeAnswer : Asked → ℕ → TreeParts → Answer ℕ → Type 0
IsTreeAnswer Parent = IsParent
IsTreeAnswer Degree = IsDegree

-- the status, and the number before and after the call
abbrev pub ParentAnswered : Tree → ℕ → ℕ → ℕ → ℕ → Type 0
ParentAnswered tree node = Exported (HasLengths (tree_parts tree)) (IsParent node (tree_parts tree))

abbrev pub ChildAnswered : Tree → ℕ → ℕ → ℕ → ℕ → ℕ → Type 0
ChildAnswered tree node k = Exported (HasLengths (tree_parts tree)) (IsChildAnswer node k (tree_parts tree))

abbrev pub DegreeAnswered : Tree → ℕ → ℕ → ℕ → ℕ → Type 0
DegreeAnswered tree node = Exported (HasLengths (tree_parts tree)) (IsDegree node (tree_parts tree))

abbrev pub LeafAnswered : Tree → ℕ → ℕ → ℕ → ℕ → Type 0
LeafAnswered tree node = Exported (HasLengths (tree_parts tree)) (IsLeaf node (tree_parts tree))

abbrev pub NextSiblingAnswered : Tree → ℕ → ℕ → ℕ → ℕ → Type 0
NextSiblingAnswered tree node = Exported (HasLengths (tree_parts tree)) (IsNextSiblingAnswer node (tree_parts tree))

abbrev pub PreviousSiblingAnswered : Tree → ℕ → ℕ → ℕ → ℕ → Type 0
PreviousSiblingAnswered tree node = Exported (HasLengths (tree_parts tree)) (IsPreviousSibling node (tree_parts tree))

abbrev pub ChildRankAnswered : Tree → ℕ → ℕ → ℕ → ℕ → Type 0
ChildRankAnswered tree node = Exported (HasLengths (tree_parts tree)) (IsChildRank node (tree_parts tree))
