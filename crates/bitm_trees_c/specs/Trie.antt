-- A trie in a block as C passes it, and what the exported calls answer.
use Rattle.std.specs.Prelude.{ℕ, ◌⊎◌, List, ◌∷◌, length}
use Rattle.bitm_tables.specs.declared.answer.Answer.{Answer}
use Rattle.louds.specs.Labels.{AreLabels}
use Rattle.louds.specs.Tree.{IsTree}
use Rattle.louds.specs.Answers.{IsChildWithin}
use Rattle.louds.specs.Leading.{IsChildByLabelOf, IsLongestOf, IsLongestWithin, IsNodeOf, IsNodeWithin}
use Rattle.tree_block.specs.Answers.{IsEndOf, IsLabelOf, IsWordOf, IsWordWithin}
use Rattle.tree_block.specs.TrieBlock.{degrees_of_parts, labels_of_parts, trie_of, HasTrieLengths, HasTrieRoom, HoldsTrie, TrieParts}
use Rattle.bitm_abi.specs.Status.{truth_of, Exported, IsFoundBelow}
use Rattle.bitm_abi.specs.Tree.{tree_parts}
use Rattle.tree_block.specs.Building.{HasTrieBlockRoom}
use Rattle.tree_block.specs.Words.{nodes_of, words_in, AreSorted, AreWords}
use Rattle.bitm_trees_c.specs.declared.tries.trie.Trie.{Trie}

-- A status is 0 where the answer was written, 1 where there is no such node, label, end or word, 2 where a length is
-- wrong, 3 where the sections are not those of a trie, and 4 where words do not rise.

-- the tree, the words of the labels, the bits of a label, and the words of the ends
abbrev pub trie_parts : Trie → TrieParts
trie_parts trie = trie_of (tree_parts trie.tree) trie.labels.now trie.width trie.ends.now

-- the lengths are those of a trie, and the degrees are those of no tree, or the labels are none for its nodes
abbrev pub IsNoTrie : List ℕ → List ℕ → ℕ → List ℕ → List ℕ → Type 0
IsNoTrie degrees labels width ends block =
    HasTrieRoom (length degrees) width labels ends block
    × ((¬ (IsTree degrees)) ⊎ (IsTree degrees × (¬ (AreLabels degrees (0 ∷ labels) width))))

-- there are words, and one does not stand after the one before it
abbrev pub AreUnsorted : List ℕ → List ℕ → Type 0
AreUnsorted bytes starts = AreWords bytes starts × (¬ (AreSorted (words_in bytes starts)))

-- so it is, and the lengths are those of the trie of words
abbrev pub AreUnsortedInRoom : List ℕ → List ℕ → List ℕ → List ℕ → Type 0
AreUnsortedInRoom bytes starts scratch block =
    AreUnsorted bytes starts × HasTrieBlockRoom (nodes_of (words_in bytes starts)) (length scratch) (length block)

-- whether a word ends at a node, as 0 or 1, whatever the sections hold
pub record IsEnd (node : ℕ) (parts : TrieParts) (answer : Answer ℕ) : Type 0 where
  pub truth : IsFoundBelow 2 answer
  pub is : IsEndOf parts node (truth_of answer)

-- the child of a node with a label: more than the node, whatever the sections hold, and that of the trie where they hold
-- one
pub record IsChildBy (node label : ℕ) (parts : TrieParts) (answer : Answer ℕ) : Type 0 where
  pub inside : IsChildWithin parts.tree.len node answer
  pub right : HoldsTrie parts → IsChildByLabelOf (degrees_of_parts parts) (labels_of_parts parts) node label answer

-- the node to which a word leads, likewise: less than there are nodes
pub record IsNodeAt (word : List ℕ) (parts : TrieParts) (answer : Answer ℕ) : Type 0 where
  pub inside : IsNodeWithin parts.tree.len answer
  pub right : HoldsTrie parts → IsNodeOf (degrees_of_parts parts) (labels_of_parts parts) word answer

-- the deepest node to which a beginning of a word leads and how many labels these are, likewise: no more than the word
-- has
pub record IsLongest (word : List ℕ) (parts : TrieParts) (answer : Answer (ℕ × ℕ)) : Type 0 where
  pub inside : IsLongestWithin parts.tree.len (length word) answer
  pub right : HoldsTrie parts → IsLongestOf (degrees_of_parts parts) (labels_of_parts parts) word answer

-- how many labels lead to a node, likewise: no more than the number of the node. They are the last items of a list where
-- there is room for them
pub record IsWordAnswer (node : ℕ) (old new : List ℕ) (parts : TrieParts) (answer : Answer ℕ) : Type 0 where
  pub inside : IsWordWithin parts.tree.len node old new answer
  pub right : HoldsTrie parts → IsWordOf (degrees_of_parts parts) (labels_of_parts parts) node new answer

-- the label of a node
abbrev pub IsLabel : ℕ → TrieParts → Answer ℕ → Type 0
IsLabel node parts = IsLabelOf parts node

-- the status, and the number before and after the call
abbrev pub LabelAnswered : Trie → ℕ → ℕ → ℕ → ℕ → Type 0
LabelAnswered trie node = Exported (HasTrieLengths (trie_parts trie)) (IsLabel node (trie_parts trie))

abbrev pub EndAnswered : Trie → ℕ → ℕ → ℕ → ℕ → Type 0
EndAnswered trie node = Exported (HasTrieLengths (trie_parts trie)) (IsEnd node (trie_parts trie))

abbrev pub ChildByLabelAnswered : Trie → ℕ → ℕ → ℕ → ℕ → ℕ → Type 0
ChildByLabelAnswered trie node label = Exported (HasTrieLengths (trie_parts trie)) (IsChildBy node label (trie_parts trie))

abbrev pub FindAnswered : Trie → List ℕ → ℕ → ℕ → ℕ → Type 0
FindAnswered trie word = Exported (HasTrieLengths (trie_parts trie)) (IsNodeAt word (trie_parts trie))

abbrev pub WordAnswered : Trie → ℕ → List ℕ → List ℕ → ℕ → ℕ → ℕ → Type 0
WordAnswered trie node old new = Exported (HasTrieLengths (trie_parts trie)) (IsWordAnswer node old new (trie_parts trie))

-- the same of two numbers
abbrev pub LongestAnswered : Trie → List ℕ → ℕ → (ℕ × ℕ) → (ℕ × ℕ) → Type 0
LongestAnswered trie word = Exported (HasTrieLengths (trie_parts trie)) (IsLongest word (trie_parts trie))
