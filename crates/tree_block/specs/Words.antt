-- Words of letters in the order of a dictionary.
use Rattle.std.specs.Prelude.{ℕ, zero, suc, ◌+◌, ◌-◌, ◌<◌, ◌≤◌, ◌==◌, List, length, slice_index, slice_range}
use Rattle.std.specs.List.{common_prefix_len}

-- words by their numbers, and how many there are
pub record Words : Type 0 where
  pub word : ℕ → List ℕ
  pub count : ℕ

-- the words that begin in bytes at these positions: the last position is where the last word ends
abbrev pub dictionary_word : List ℕ → List ℕ → ℕ → List ℕ
dictionary_word bytes starts j = slice_range bytes (slice_index starts j) (slice_index starts (j + 1))

abbrev pub words_in : List ℕ → List ℕ → Words
words_in bytes starts = record { word = dictionary_word bytes starts; count = length starts - 1 }

-- there is a position, none is before the one before it, and the last one is in the bytes or where they end
pub record AreWords (bytes starts : List ℕ) : Type 0 where
  pub some : 0 < length starts
  pub rise : (j : ℕ) → j + 1 < length starts → slice_index starts j ≤ slice_index starts (j + 1)
  pub inside : slice_index starts (length starts - 1) ≤ length bytes

-- how many letters two words share from their first on
unfoldable pub common : List ℕ → List ℕ → ℕ
common u v = common_prefix_len (λ x y. x == y) u v

-- word u stands before word v in a dictionary: after the letters that they share v goes on, and u ends or has a lesser one
pub record IsWordBefore (u v : List ℕ) : Type 0 where
  pub more : common u v < length v
  pub less : common u v < length u → slice_index u (common u v) < slice_index v (common u v)

-- each word stands before the next one
abbrev pub AreSorted : Words → Type 0
AreSorted ws = (j : ℕ) → j + 1 < ws.count → IsWordBefore (ws.word j) (ws.word (j + 1))

-- word j does not stand after the word before it
pub record IsUnsortedAt (ws : Words) (j : ℕ) : Type 0 where
  pub second : 1 ≤ j
  pub inside : j < ws.count
  pub unsorted : ¬ (IsWordBefore (ws.word (j - 1)) (ws.word j))

-- how many letters word j shares with the word before it: the first one has none before it
unfoldable pub shared_of : Words → ℕ → ℕ
shared_of ws zero = 0
shared_of ws (suc j) = common (ws.word j) (ws.word (suc j))

-- how many nodes the first j words add to the root: one for each letter that a word does not share with the one before
unfoldable pub added : Words → ℕ → ℕ
added ws zero = 0
added ws (suc j) = added ws j + (length (ws.word j) - shared_of ws j)

-- how many nodes the trie of sorted words has
abbrev pub nodes_of : Words → ℕ
nodes_of ws = 1 + added ws ws.count
