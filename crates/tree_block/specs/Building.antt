-- Room for the block of the trie of words, and why it is not written.
use Rattle.std.specs.Prelude.{◌≡◌, ℕ, ◌+◌, ◌*◌, ◌^◌, ◌<◌, List, length}
use Rattle.bitm_block.specs.Layout.{end_of}
use Rattle.tree_block.specs.TrieBlock.{end_words, trie_sections}
use Rattle.tree_block.specs.Room.{AreSortedWords}
use Rattle.tree_block.specs.Words.{nodes_of, words_in, AreSorted, AreWords}
use Rattle.tree_block.specs.declared.words.error.WordsError.{WordsError}
use Rattle.tree_block.specs.declared.words.error.WordsError.TheVariants.{NotWords, WrongLength, NotSorted}

-- n nodes are few enough, the scratch has as many words as they have degrees, parents and labels, and as their ends take,
-- and the block as many as it takes
pub record HasTrieBlockRoom (n scratch block : ℕ) : Type 0 where
  pub few : n < 2 ^ 57
  pub scratch_len : scratch + 2 ≡ 3 * n + end_words n
  pub block_len : block ≡ end_of (trie_sections n 8 (end_words n))

-- sorted words, and room for the block of their trie
pub record CanBuild (bytes starts scratch block : List ℕ) : Type 0 where
  pub are : AreSortedWords bytes starts
  pub room : HasTrieBlockRoom (nodes_of (words_in bytes starts)) (length scratch) (length block)

-- why no block is written: the first of these that holds, a length before what is in the lists
abbrev pub IsBuildReason : List ℕ → List ℕ → List ℕ → List ℕ → WordsError → Type 0
IsBuildReason bytes starts scratch block NotWords = ¬ (AreWords bytes starts)
IsBuildReason bytes starts scratch block WrongLength =
    AreWords bytes starts × (¬ (HasTrieBlockRoom (nodes_of (words_in bytes starts)) (length scratch) (length block)))
IsBuildReason bytes starts scratch block NotSorted =
    AreWords bytes starts × HasTrieBlockRoom (nodes_of (words_in bytes starts)) (length scratch) (length block)
    × (¬ (AreSorted (words_in bytes starts)))
