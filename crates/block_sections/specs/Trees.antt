-- The block of a tree, or of a trie, that is extended by a section is that of the same tree or trie.
use Rattle.std.specs.Prelude.{◌≡◌, ℕ, List}
use Rattle.bitm_block.specs.declared.layout.Section.{Section}
use Rattle.block_sections.specs.Extended.{IsExtended}
use Rattle.block_sections.specs.Kept.{AddsNoHints}
use Rattle.tree_block.specs.Block.{tree_in, HoldsTree, IsBlockOf, IsTreeBlock}
use Rattle.tree_block.specs.TrieBlock as tries

-- the new block is opened and checked as the old one, of the same parts, and is the block of the same degrees
pub record KeepsTree (block new : List ℕ) : Type 0 where
  pub opened : IsTreeBlock block → IsTreeBlock new
  pub parts : IsTreeBlock block → tree_in new ≡ tree_in block
  pub sound : HoldsTree block → HoldsTree new
  pub degrees : (degrees : List ℕ) → IsBlockOf degrees block → IsBlockOf degrees new

abbrev pub KeepsTrees : Type 0
KeepsTrees =
    (block : List ℕ) (added : Section) (words new : List ℕ) → AddsNoHints 3 block added → IsExtended block added words new → KeepsTree block new

-- the same of a trie
pub record KeepsTrie (block new : List ℕ) : Type 0 where
  pub opened : tries.IsTrieBlock block → tries.IsTrieBlock new
  pub parts : tries.IsTrieBlock block → tries.trie_in new ≡ tries.trie_in block
  pub sound : tries.IsSoundBlock block → tries.IsSoundBlock new
  pub trie : (degrees labels : List ℕ) (width : ℕ) (ends : List ℕ) → tries.IsBlockOf degrees labels width ends block
      → tries.IsBlockOf degrees labels width ends new

abbrev pub KeepsTries : Type 0
KeepsTries =
    (block : List ℕ) (added : Section) (words new : List ℕ) → AddsNoHints 5 block added → IsExtended block added words new → KeepsTrie block new
