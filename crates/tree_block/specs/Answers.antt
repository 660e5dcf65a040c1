-- What is answered of a trie in memory that may hold anything, and in that of a trie.
use Rattle.std.specs.Prelude.{◌≡◌, ℕ, ◌-◌, ◌^◌, ◌<◌, ◌≤◌, ◌⊎◌, Bool, List, length, take, drop, slice_index}
use Rattle.bitm_tables.specs.Answers.{Right}
use Rattle.bitm_tables.specs.declared.answer.Answer.{Answer}
use Rattle.bitm_tables.specs.declared.answer.Answer.TheVariants.{Found, Absent, Wrong}
use Rattle.bit_lists.specs.Bits.{bits_of, item}
use Rattle.louds.specs.Labels.{Leads}
use Rattle.tree_block.specs.TrieBlock.{labels_of_parts, TrieParts}

-- the label of node v, whatever the memory holds, and Absent exactly at the root and where v is no node
abbrev pub IsLabelOf : TrieParts → ℕ → Answer ℕ → Type 0
IsLabelOf parts v =
    Right (λ label. (0 < v) × (v < parts.tree.len) × (label < 2 ^ parts.width) × (label ≡ slice_index (labels_of_parts parts) v))
    ((v ≡ 0) ⊎ (parts.tree.len ≤ v))

-- whether a word ends at node v, whatever the memory holds, and Absent exactly where v is no node or there are no ends
abbrev pub IsEndOf : TrieParts → ℕ → Answer Bool → Type 0
IsEndOf parts v =
    Right (λ ends. (v < parts.tree.len) × (0 < length parts.ends) × (ends ≡ item (bits_of parts.ends) v))
    ((parts.tree.len ≤ v) ⊎ (length parts.ends ≡ 0))

-- of n nodes: a word leads to node v with no more labels than v, and Absent is answered exactly where v is no node. Where
-- there is room for the labels, the items before them are as they were
abbrev pub IsWordWithin : ℕ → ℕ → List ℕ → List ℕ → Answer ℕ → Type 0
IsWordWithin n v old new (Found k) =
    (v < n) × (k ≤ v) × (length new ≡ length old) × (k ≤ length old → take (length old - k) new ≡ take (length old - k) old)
IsWordWithin n v old new Absent = (n ≤ v) × (new ≡ old)
IsWordWithin n v old new Wrong = (v < n) × (length new ≡ length old)

-- a word of k labels leads from the root to node v, and where there is room for them they are the last items of the list;
-- Absent exactly where v is no node
abbrev pub IsWordOf : List ℕ → List ℕ → ℕ → List ℕ → Answer ℕ → Type 0
IsWordOf d ls v out =
    Right (λ k. (word : List ℕ) × (length word ≡ k) × Leads d ls word 0 v × (k ≤ length out → drop (length out - k) out ≡ word))
    (length d ≤ v)
