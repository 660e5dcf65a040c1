-- The trie of words.
use Rattle.std.specs.Prelude.{◌≡◌, ℕ, ◌<◌, true, List, length}
use Rattle.bit_lists.specs.Bits.{bits_of, item}
use Rattle.louds.specs.Labels.{Leads}
use Rattle.tree_block.specs.TrieBlock.{degrees_of_parts, labels_of_parts, trie_in, IsSoundBlock}
use Rattle.tree_block.specs.Words.{Words}

-- each of the words leads from the root to a node whose bit of the ends is 1, and each word that leads to such a node is
-- one of them
pub record HoldsWords (ws : Words) (degrees labels ends : List ℕ) : Type 0 where
  pub found : (j : ℕ) → j < ws.count → (v : ℕ) × (item (bits_of ends) v ≡ true) × Leads degrees labels (ws.word j) 0 v
  pub only : (word : List ℕ) (v : ℕ) → Leads degrees labels word 0 v → item (bits_of ends) v ≡ true
      → (j : ℕ) × (j < ws.count) × (word ≡ ws.word j)
  pub inside : (v : ℕ) → item (bits_of ends) v ≡ true → v < length degrees

-- the block is that of a trie that holds the words
pub record IsBlockOfWords (ws : Words) (block : List ℕ) : Type 0 where
  pub sound : IsSoundBlock block
  pub width : (trie_in block).width ≡ 8
  pub words : HoldsWords ws (degrees_of_parts (trie_in block)) (labels_of_parts (trie_in block)) (trie_in block).ends
