-- A block that holds a tree.
use Rattle.std.specs.Prelude.{◌≡◌, ℕ, ◌+◌, ◌^◌, ◌<◌, ◌⊎◌, List, [], ◌∷◌, length, slice_index, slice_range}
use Rattle.std.specs.Int.{div_ceil}
use Rattle.bitm_tables.specs.Tables.{HasSizes, Lists}
use Rattle.bitm_block.specs.Header.{section_in, IsBlock, IsOfKind, IsVerified}
use Rattle.bitm_block.specs.Layout.{aligned, end_of}
use Rattle.bitm_block.specs.declared.head.Head.{Head}
use Rattle.bitm_block.specs.declared.layout.Section.{Section}
use Rattle.bitm_selection.specs.Hints.{hints_len, Lead}
use Rattle.block_tables.specs.Hints.{hints_in}
use Rattle.tables_view.specs.Sizes.{lists_of}
use Rattle.louds.specs.Counted.{degrees_in, IsLouds}
use Rattle.louds.specs.Held.{tree_words}
use Rattle.louds.specs.Tree.{IsTree}

-- how many entries the upper and the lower table of n nodes have
abbrev pub upper_of_nodes : ℕ → ℕ
upper_of_nodes n = div_ceil (tree_words n) (2 ^ 26)

abbrev pub lower_of_nodes : ℕ → ℕ
lower_of_nodes n = div_ceil (tree_words n) 32

-- how many words the hints of n nodes take
abbrev pub hints_of_nodes : ℕ → ℕ
hints_of_nodes n = hints_len n (tree_words n)

-- the numbers of the header of a tree of n nodes
abbrev pub tree_head : ℕ → Head
tree_head n = record { kind = 7; len = n; width = 0; ones_log2 = 0; zeros_log2 = 0; a = 0; b = 0; c = 0 }

-- the sections of a tree of n nodes: words, upper and lower table, and hints
abbrev pub tree_sections : ℕ → List Section
tree_sections n =
    record { role = 1; count = tree_words n } ∷ record { role = 2; count = upper_of_nodes n } ∷ record { role = 3; count = lower_of_nodes n }
    ∷ record { role = 22; count = hints_of_nodes n } ∷ []

-- where the upper and the lower table and the hints begin, and where the block ends
abbrev pub tree_upper_at : ℕ → ℕ
tree_upper_at n = 32 + aligned (tree_words n)

abbrev pub tree_lower_at : ℕ → ℕ
tree_lower_at n = tree_upper_at n + aligned (upper_of_nodes n)

abbrev pub tree_hints_at : ℕ → ℕ
tree_hints_at n = tree_lower_at n + aligned (lower_of_nodes n)

abbrev pub tree_end_at : ℕ → ℕ
tree_end_at n = tree_hints_at n + aligned (hints_of_nodes n)

-- a number of nodes, words with two tables, and hints
pub record TreeParts : Type 0 where
  pub len : ℕ
  pub lists : Lists
  pub hints : List ℕ

-- the given number of nodes, and these words, tables and hints
abbrev pub parts_of : ℕ → List ℕ → List ℕ → List ℕ → List ℕ → TreeParts
parts_of n words upper lower hints =
    record { len = n; lists = record { words = words; upper = upper; lower = lower }; hints = hints }

-- the tree whose words and tables are the first three sections, with the hints of section i, or none
abbrev pub tree_with_hints : List ℕ → ℕ → TreeParts
tree_with_hints block i =
    let n = slice_index block 3 in
    let words = section_in block 0 in
    parts_of n words (section_in block 1) (section_in block 2) (hints_in block i n (length words))

-- in a block of kind 7 the hints are the fourth section
abbrev pub tree_in : List ℕ → TreeParts
tree_in block = tree_with_hints block 3

-- the words and tables are as long as those of the number of nodes, and the hints as long or none: nothing is said of
-- what they hold
pub record HasLengths (parts : TreeParts) : Type 0 where
  pub short : parts.len < 2 ^ 60
  pub words_len : length parts.lists.words ≡ tree_words parts.len
  pub sized : HasSizes parts.lists
  pub hinted : (length parts.hints ≡ 0) ⊎ (length parts.hints ≡ hints_len parts.len (length parts.lists.words))

-- words and tables hold a tree, and the hints are those of the words
pub record HoldsIn (parts : TreeParts) : Type 0 where
  pub louds : IsLouds parts.len parts.lists
  pub lead : Lead parts.len parts.hints parts.lists.words

-- the block is of the kind of a tree, and its first three sections are words, an upper and a lower table
abbrev pub HasTreeSections : List ℕ → Type 0
HasTreeSections block = IsOfKind 7 (1 ∷ 2 ∷ 3 ∷ []) block

-- header and directory are right, and the sections are as long as those of the number of nodes
pub record IsTreeBlock (block : List ℕ) : Type 0 where
  pub is_block : IsBlock block
  pub sections : HasTreeSections block
  pub lengths : HasLengths (tree_in block)

-- degrees of a tree of few enough nodes, and a block as long as theirs
pub record CanHold (degrees block : List ℕ) : Type 0 where
  pub short : length degrees < 2 ^ 60
  pub tree : IsTree degrees
  pub room : length block ≡ end_of (tree_sections (length degrees))

-- words, tables and hints that hold the tree of these degrees
pub record IsTreeOf (degrees words upper lower hints : List ℕ) : Type 0 where
  pub words_len : length words ≡ tree_words (length degrees)
  pub upper_len : length upper ≡ upper_of_nodes (length degrees)
  pub lower_len : length lower ≡ lower_of_nodes (length degrees)
  pub hints_len : length hints ≡ hints_of_nodes (length degrees)
  pub louds : IsLouds (length degrees) (lists_of words upper lower)
  pub degrees_are : degrees_in (length degrees) (lists_of words upper lower) ≡ degrees
  pub lead : Lead (length degrees) hints words

-- they stand in a block where its sections are
abbrev pub StandsIn : List ℕ → List ℕ → Type 0
StandsIn degrees block =
    let n = length degrees in
    IsTreeOf degrees (slice_range block 32 (32 + tree_words n)) (slice_range block (tree_upper_at n) (tree_upper_at n + upper_of_nodes n))
    (slice_range block (tree_lower_at n) (tree_lower_at n + lower_of_nodes n)) (slice_range block (tree_hints_at n) (tree_hints_at n + hints_of_nodes n))

-- the block is as it was written, and holds a tree
pub record HoldsTree (block : List ℕ) : Type 0 where
  pub tree_block : IsTreeBlock block
  pub verified : IsVerified block
  pub tree : HoldsIn (tree_in block)

-- the block is that of the tree of these degrees
pub record IsBlockOf (degrees block : List ℕ) : Type 0 where
  pub holds : HoldsTree block
  pub degrees_are : degrees_in (tree_in block).len (tree_in block).lists ≡ degrees
