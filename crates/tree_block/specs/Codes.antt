-- What lists of queries of a tree write: each answer by its code.
use Rattle.std.specs.Prelude.{◌≡◌, ℕ, []}
use Rattle.bitm_select.specs.Answers.{list_code}
use Rattle.bitm_tables.specs.Tables.{Lists}
use Rattle.bitm_tables.specs.declared.answer.Answer.{Answer}
use Rattle.louds.specs.Counted.{degrees_in}
use Rattle.louds.specs.Answers.{IsChildOf, IsChildWithin, IsDegreeOf, IsDegreeWithin, IsParentOf, IsParentWithin}
use Rattle.tree_block.specs.Block.{HoldsIn, TreeParts}

-- n codes an answer of which P holds
pub record IsCodeOf (P : Answer ℕ → Type 0) (n : ℕ) : Type 0 where
  pub answer : Answer ℕ
  pub holds : P answer
  pub code : n ≡ list_code answer

-- the given number of nodes, in these words and tables without hints
abbrev pub in_lists : ℕ → Lists → TreeParts
in_lists n lists = record { len = n; lists = lists; hints = [] }

-- the same number of nodes, words and tables without hints: lists of queries take none
abbrev pub without_hints : TreeParts → TreeParts
without_hints parts = in_lists parts.len parts.lists

-- the parent of a node: less than the node, whatever the parts hold, and that of the tree where they hold one
pub record IsParent (node : ℕ) (parts : TreeParts) (answer : Answer ℕ) : Type 0 where
  pub inside : IsParentWithin parts.len node answer
  pub right : HoldsIn parts → IsParentOf (degrees_in parts.len parts.lists) node answer

-- child k of a node, likewise: more than the node
pub record IsChildAnswer (node k : ℕ) (parts : TreeParts) (answer : Answer ℕ) : Type 0 where
  pub inside : IsChildWithin parts.len node answer
  pub right : HoldsIn parts → IsChildOf (degrees_in parts.len parts.lists) node k answer

-- how many children a node has, likewise: fewer than there are nodes
pub record IsDegree (node : ℕ) (parts : TreeParts) (answer : Answer ℕ) : Type 0 where
  pub inside : IsDegreeWithin parts.len node answer
  pub right : HoldsIn parts → IsDegreeOf (degrees_in parts.len parts.lists) node answer
