-- A block that holds a trie: a tree, a label for each node but the root, and a bit for each node.
use Rattle.std.specs.Prelude.{◌≡◌, ◌≢◌, ◌⊎◌, ℕ, ◌-◌, ◌^◌, ◌<◌, ◌≤◌, List, [], ◌∷◌, length, slice_index}
use Rattle.std.specs.Int.{div_ceil}
use Rattle.bitm_block.specs.Header.{section_in, IsBlock, IsOfKind, IsVerified}
use Rattle.bitm_block.specs.Layout.{end_of, part_in}
use Rattle.bitm_block.specs.declared.head.Head.{Head}
use Rattle.bitm_block.specs.declared.layout.Section.{Section}
use Rattle.block_tables.specs.Sections.{section_of}
use Rattle.louds.specs.Counted.{degrees_in}
use Rattle.louds.specs.Held.{tree_words}
use Rattle.louds.specs.Labels.{AreLabels, Rise}
use Rattle.louds.specs.Tree.{IsTree}
use Rattle.tree_block.specs.Block.{hints_of_nodes, lower_of_nodes, tree_with_hints, upper_of_nodes, HasLengths, HoldsIn, IsTreeOf, TreeParts}
use Rattle.tree_block.specs.Labels.{label_words, labels_of, IsLabelWidth, IsShape}
use Rattle.tree_block.specs.declared.trie.error.BuildError.{BuildError}
use Rattle.tree_block.specs.declared.trie.error.BuildError.TheVariants.{TooLong, WrongWidth, WrongLabels, WrongEnds, WrongLength, NotATree, NotLabels}

-- how many words a bit for each of n nodes takes
abbrev pub end_words : ℕ → ℕ
end_words n = div_ceil n 64

-- no words, or a bit for each of n nodes
abbrev pub HasWordEnds : List ℕ → ℕ → Type 0
HasWordEnds ends n = (length ends ≡ 0) ⊎ (length ends ≡ end_words n)

-- the numbers of the header of a trie of n nodes, whose labels have `width` bits
abbrev pub trie_head : ℕ → ℕ → Head
trie_head n width = record { kind = 9; len = n; width = width; ones_log2 = 0; zeros_log2 = 0; a = 0; b = 0; c = 0 }

-- its sections: the first three of its tree, labels, ends in the given number of words, and the hints of the tree
abbrev pub trie_sections : ℕ → ℕ → ℕ → List Section
trie_sections n width ends =
    section_of 1 (tree_words n) ∷ section_of 2 (upper_of_nodes n) ∷ section_of 3 (lower_of_nodes n) ∷ section_of 17 (label_words n width)
    ∷ section_of 18 ends ∷ section_of 22 (hints_of_nodes n) ∷ []

-- a tree, the words of its labels, the bits of a label, and the words of its ends: bit v of these says whether a word ends
-- at node v
pub record TrieParts : Type 0 where
  pub tree : TreeParts
  pub labels : List ℕ
  pub width : ℕ
  pub ends : List ℕ

abbrev pub trie_of : TreeParts → List ℕ → ℕ → List ℕ → TrieParts
trie_of tree labels width ends = record { tree = tree; labels = labels; width = width; ends = ends }

-- the trie whose parts are the first five sections, with the hints of the sixth, or none
abbrev pub trie_in : List ℕ → TrieParts
trie_in block = trie_of (tree_with_hints block 5) (section_in block 3) (slice_index block 4) (section_in block 4)

-- the degrees and the labels of the nodes that the parts hold
abbrev pub degrees_of_parts : TrieParts → List ℕ
degrees_of_parts parts = degrees_in parts.tree.len parts.tree.lists

abbrev pub labels_of_parts : TrieParts → List ℕ
labels_of_parts parts = labels_of parts.labels parts.width parts.tree.len

-- the parts are as long as those of the number of nodes: nothing is said of what they hold
pub record HasTrieLengths (parts : TrieParts) : Type 0 where
  pub tree : HasLengths parts.tree
  pub shape : IsShape parts.tree.len parts.width
  pub labels_len : length parts.labels ≡ label_words parts.tree.len parts.width
  pub ends_len : HasWordEnds parts.ends parts.tree.len

-- the block is of the kind of a trie, and its first five sections are those of one
abbrev pub HasTrieSections : List ℕ → Type 0
HasTrieSections block = IsOfKind 9 (1 ∷ 2 ∷ 3 ∷ 17 ∷ 18 ∷ []) block

-- header and directory are right, and the sections are as long as those of the number of nodes
pub record IsTrieBlock (block : List ℕ) : Type 0 where
  pub is_block : IsBlock block
  pub sections : HasTrieSections block
  pub lengths : HasTrieLengths (trie_in block)

-- the parts hold a tree, with the hints of its words or none, and the labels of siblings rise
pub record HoldsTrie (parts : TrieParts) : Type 0 where
  pub tree : HoldsIn parts.tree
  pub rise : Rise (degrees_of_parts parts) (labels_of_parts parts)

-- the block is as it was written, and holds a trie
pub record IsSoundBlock (block : List ℕ) : Type 0 where
  pub trie_block : IsTrieBlock block
  pub verified : IsVerified block
  pub trie : HoldsTrie (trie_in block)

-- the degrees of a tree of few enough nodes, labels for the nodes from 1 on, and ends
pub record IsTrie (degrees labels : List ℕ) (width : ℕ) (ends : List ℕ) : Type 0 where
  pub shape : IsShape (length degrees) width
  pub tree : IsTree degrees
  pub are_labels : AreLabels degrees (0 ∷ labels) width
  pub has_ends : HasWordEnds ends (length degrees)

-- and a block as long as theirs
pub record CanHold (degrees labels : List ℕ) (width : ℕ) (ends block : List ℕ) : Type 0 where
  pub trie : IsTrie degrees labels width ends
  pub room : length block ≡ end_of (trie_sections (length degrees) width (length ends))

-- the lengths of a trie of n nodes: of labels, ends and a block
pub record HasTrieRoom (n width : ℕ) (labels ends block : List ℕ) : Type 0 where
  pub shape : IsShape n width
  pub labels_len : length labels ≡ n - 1
  pub has_ends : HasWordEnds ends n
  pub block_len : length block ≡ end_of (trie_sections n width (length ends))

-- why no block was written: the first of these that holds, a length before what is in the lists
abbrev pub IsReason : List ℕ → List ℕ → ℕ → List ℕ → List ℕ → BuildError → Type 0
IsReason d labels width ends block TooLong = 2 ^ 57 ≤ length d
IsReason d labels width ends block WrongWidth = (length d < 2 ^ 57) × (¬ (IsLabelWidth width))
IsReason d labels width ends block WrongLabels = IsShape (length d) width × (length labels ≢ length d - 1)
IsReason d labels width ends block WrongEnds =
    IsShape (length d) width × (length labels ≡ length d - 1) × (¬ (HasWordEnds ends (length d)))
IsReason d labels width ends block WrongLength =
    IsShape (length d) width × (length labels ≡ length d - 1) × HasWordEnds ends (length d)
    × (length block ≢ end_of (trie_sections (length d) width (length ends)))
IsReason d labels width ends block NotATree = HasTrieRoom (length d) width labels ends block × (¬ (IsTree d))
IsReason d labels width ends block NotLabels =
    HasTrieRoom (length d) width labels ends block × IsTree d × (¬ (AreLabels d (0 ∷ labels) width))

-- words that hold these labels of the nodes from 1 on
pub record AreLabelsOf (degrees labels : List ℕ) (width : ℕ) (words : List ℕ) : Type 0 where
  pub len : length words ≡ label_words (length degrees) width
  pub held : labels_of words width (length degrees) ≡ 0 ∷ labels

-- the parts of this trie
pub record AreParts (degrees labels : List ℕ) (width : ℕ) (ends words upper lower label_part end_part hints : List ℕ) : Type 0 where
  pub tree : IsTreeOf degrees words upper lower hints
  pub labels_held : AreLabelsOf degrees labels width label_part
  pub ends_kept : end_part ≡ ends

-- they stand in a block where its sections are
abbrev pub StandsIn : List ℕ → List ℕ → ℕ → List ℕ → List ℕ → Type 0
StandsIn degrees labels width ends block =
    let ss = trie_sections (length degrees) width (length ends) in
    AreParts degrees labels width ends (part_in ss block 0) (part_in ss block 1) (part_in ss block 2) (part_in ss block 3) (part_in ss block 4)
    (part_in ss block 5)

-- the block is that of this trie
pub record IsBlockOf (degrees labels : List ℕ) (width : ℕ) (ends block : List ℕ) : Type 0 where
  pub sound : IsSoundBlock block
  pub degrees_are : degrees_of_parts (trie_in block) ≡ degrees
  pub labels_are : labels_of_parts (trie_in block) ≡ 0 ∷ labels
  pub width_is : (trie_in block).width ≡ width
  pub ends_are : (trie_in block).ends ≡ ends
