-- Labels of nodes, packed side by side in words.
use Rattle.std.specs.Prelude.{◌≡◌, ℕ, ◌-◌, ◌*◌, ◌^◌, ◌<◌, ◌≤◌, List, ◌∷◌, length}
use Rattle.std.specs.Int.{div_ceil}
use Rattle.louds.specs.Labels.{numbers_of}

-- how many words the labels of n nodes have, of `width` bits each: the root has none
abbrev pub label_words : ℕ → ℕ → ℕ
label_words n width = div_ceil ((n - 1) * width) 64

-- the labels of n nodes: 0 stands for that of the root, which has none, and each other node has a number of `width` bits
abbrev pub labels_of : List ℕ → ℕ → ℕ → List ℕ
labels_of words width n = 0 ∷ numbers_of words width (n - 1)

-- a label can have `width` bits
abbrev pub IsLabelWidth : ℕ → Type 0
IsLabelWidth width = (1 ≤ width) × (width ≤ 63)

-- n nodes can have labels of `width` bits
pub record IsShape (n width : ℕ) : Type 0 where
  pub few : n < 2 ^ 57
  pub some : 1 ≤ width
  pub most : width ≤ 63

-- there are labels for n nodes, whatever they are
pub record HasLabels (words : List ℕ) (width n : ℕ) : Type 0 where
  pub shape : IsShape n width
  pub tight : length words ≡ label_words n width
