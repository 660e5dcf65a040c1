-- Room for the parts of a trie, and why it is not grown.
use Rattle.std.specs.Prelude.{◌≡◌, ℕ, ◌+◌, List, length}
use Rattle.std.specs.Int.{div_ceil}
use Rattle.tree_block.specs.Levels.{above}
use Rattle.tree_block.specs.Words.{nodes_of, words_in, AreSorted, AreWords, Words}
use Rattle.tree_block.specs.declared.words.error.WordsError.{WordsError}
use Rattle.tree_block.specs.declared.words.error.WordsError.TheVariants.{NotWords, WrongLength, NotSorted}

-- words in bytes, in the order of a dictionary
pub record AreSortedWords (bytes starts : List ℕ) : Type 0 where
  pub words : AreWords bytes starts
  pub sorted : AreSorted (words_in bytes starts)

-- a degree for each of n nodes, a label and a parent for each but the root, and a bit for each
pub record HasNodeRoom (n : ℕ) (degrees labels ends parents : List ℕ) : Type 0 where
  pub degrees_len : length degrees ≡ n
  pub labels_len : length labels + 1 ≡ n
  pub ends_len : length ends ≡ div_ceil n 64
  pub parents_len : length parents + 1 ≡ n

-- a next node for each level that there may be, and a label and a parent for each node but the root: no level is as deep
-- as there are nodes, so that all of these stand above that one
pub record IsWhole (ws : Words) (next labels parents : List ℕ) : Type 0 where
  pub next_len : length next ≡ nodes_of ws
  pub labels_len : length labels + 1 ≡ nodes_of ws
  pub parents_len : length parents + 1 ≡ nodes_of ws
  pub all : above ws (nodes_of ws) ≡ nodes_of ws

-- sorted words, and room for the parts of their trie
pub record CanGrow (bytes starts degrees labels ends parents : List ℕ) : Type 0 where
  pub words : AreSortedWords bytes starts
  pub room : HasNodeRoom (nodes_of (words_in bytes starts)) degrees labels ends parents

-- why these are no sorted words: the first of these that holds
abbrev pub IsFault : List ℕ → List ℕ → WordsError → Type 0
IsFault bytes starts NotWords = ¬ (AreWords bytes starts)
IsFault bytes starts NotSorted = AreWords bytes starts × (¬ (AreSorted (words_in bytes starts)))
IsFault bytes starts WrongLength = ⊥

-- why no trie is grown of them: the first of these that holds, a length before what is in the lists
abbrev pub IsReason : List ℕ → List ℕ → List ℕ → List ℕ → List ℕ → List ℕ → WordsError → Type 0
IsReason bytes starts degrees labels ends parents NotWords = ¬ (AreWords bytes starts)
IsReason bytes starts degrees labels ends parents WrongLength =
    AreWords bytes starts × (¬ (HasNodeRoom (nodes_of (words_in bytes starts)) degrees labels ends parents))
IsReason bytes starts degrees labels ends parents NotSorted =
    AreWords bytes starts × HasNodeRoom (nodes_of (words_in bytes starts)) degrees labels ends parents × (¬ (AreSorted (words_in bytes starts)))
