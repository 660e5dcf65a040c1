-- Children by their labels, and nodes by their words, where labels may be any: what is answered, and what is read.
use Rattle.std.specs.Prelude.{◌≡◌, ⊤, ℕ, ◌+◌, ◌<◌, ◌≤◌, List, length, take, slice_index}
use Rattle.bitm_tables.specs.Answers.{Right}
use Rattle.bitm_tables.specs.declared.answer.Answer.{Answer}
use Rattle.bitm_tables.specs.declared.answer.Answer.TheVariants.{Found, Absent, Wrong}
use Rattle.louds.specs.Labels.{IsChildWith, Leads}

-- words with labels, the bits of a label, and how many labels were read
pub record LabelReads : Type 0 where
  pub words : List ℕ
  pub width : ℕ
  pub read : ℕ

-- of which none was read
abbrev pub none_read_of : List ℕ → ℕ → LabelReads
none_read_of words width = record { words = words; width = width; read = 0 }

-- a call read at most k labels, and they are the same
pub record ReadsLabels (old new : LabelReads) (k : ℕ) : Type 0 where
  pub at_most : new.read ≤ old.read + k
  pub words : new.words ≡ old.words
  pub width : new.width ≡ old.width

-- the labels of the nodes from `first` on and before `past` do not fall
abbrev pub Grow : List ℕ → ℕ → ℕ → Type 0
Grow labels first past = (v w : ℕ) → first ≤ v → v ≤ w → w < past → slice_index labels v ≤ slice_index labels w

-- of the nodes from `first` on and before `past`, those before `at` have lesser labels than the given one, and the others
-- have not
pub record IsLabelPosition (labels : List ℕ) (first past label at : ℕ) : Type 0 where
  pub less : (v : ℕ) → first ≤ v → v < at → slice_index labels v < label
  pub not_less : (v : ℕ) → at ≤ v → v < past → label ≤ slice_index labels v

-- the child of node i with the label c, and Absent exactly where none has it
abbrev pub IsChildByLabelOf : List ℕ → List ℕ → ℕ → ℕ → Answer ℕ → Type 0
IsChildByLabelOf d ls i c = Right (λ u. IsChildWith d ls i c u) ((u : ℕ) → IsChildWith d ls i c u → ⊥)

-- of n nodes: one of them
abbrev pub IsNodeWithin : ℕ → Answer ℕ → Type 0
IsNodeWithin n (Found v) = v < n
IsNodeWithin n Absent = ⊤
IsNodeWithin n Wrong = ⊤

-- the node to which a word leads from the root, and Absent exactly where it leads to none
abbrev pub IsNodeOf : List ℕ → List ℕ → List ℕ → Answer ℕ → Type 0
IsNodeOf d ls word = Right (λ v. Leads d ls word 0 v) ((v : ℕ) → Leads d ls word 0 v → ⊥)

-- of n nodes: one of them, and no more than the k labels of a word; Absent is answered exactly where there are none
abbrev pub IsLongestWithin : ℕ → ℕ → Answer (ℕ × ℕ) → Type 0
IsLongestWithin n k (Found at) = (at.0 < n) × (at.1 ≤ k)
IsLongestWithin n k Absent = n ≡ 0
IsLongestWithin n k Wrong = 0 < n

-- the node to which the first labels of a word lead from the root, and how many these are: no longer beginning of the word
-- leads to a node
abbrev pub IsLongestOf : List ℕ → List ℕ → List ℕ → Answer (ℕ × ℕ) → Type 0
IsLongestOf d ls word =
    Right (λ at. Leads d ls (take at.1 word) 0 at.0 × ((k : ℕ) → at.1 < k → k ≤ length word → (v : ℕ) → Leads d ls (take k word) 0 v → ⊥))
    ⊥
