-- Labels in words.
use Rattle.std.proofs.Common.{◌≡◌, ℕ, zero, suc, ◌+◌, ◌-◌, ◌*◌, ◌^◌, ◌<◌, List, ◌∷◌, get_or, ap, ◌∙◌, arith}
use Rattle.std.proofs.Math.Nat.{mul-le-mul_left}
use Rattle.std.proofs.lemmas.Nat.{row_fits}
use Rattle.bit_lists.specs.Bits.{bits_of}
use Rattle.bit_lists.specs.Number.{number_at, IsFragmentInRange}
use Rattle.louds.proofs.lemmas.LabelLemmas.{packed_at}
use Rattle.louds.specs.Labels.{numbers_of}
use Rattle.tree_block.specs.Labels.{labels_of, HasLabels, IsShape}

-- an item after the first
pub after_first : (xs : List ℕ) (x v : ℕ) → 0 < v → get_or (x ∷ xs) v 0 ≡ get_or xs (v - 1) 0
after_first xs x zero some = absurd (omega (arith, some))
after_first xs x (suc v) some = let e : v ≡ suc v - 1 = omega arith in ap (λ k. get_or xs k 0) e

-- two labels side by side
pub two_labels : (xs : List ℕ) (v : ℕ) → 0 < v → (get_or (0 ∷ xs) v 0 ≡ get_or xs (v - 1) 0) × (get_or (0 ∷ xs) (v + 1) 0 ≡ get_or xs v 0)
two_labels xs v some = (
  after_first xs 0 v some,
  after_first xs 0 (v + 1) (omega arith) ∙ (let e : v + 1 - 1 ≡ v = omega arith in ap (λ k. get_or xs k 0) e),
)

-- the label of a node is the fragment of the node before it
pub label_packed : (words : List ℕ) (width n v : ℕ) → 0 < v → v < n
    → get_or (labels_of words width n) v 0 ≡ number_at (bits_of words) ((v - 1) * width) width
label_packed words width n v some inside =
    after_first (numbers_of words width (n - 1)) 0 v some ∙ packed_at words width (n - 1) (v - 1) (omega arith)

-- all labels together have few bits
pub bits_few : (n width : ℕ) → IsShape n width → (n - 1) * width < 2 ^ 63
bits_few n width shape = omega (arith, shape.few, mul-le-mul_left (n - 1) shape.most)

-- that fragment stands in the words
pub label_inside : (words : List ℕ) (width n v : ℕ) → HasLabels words width n → 0 < v → v < n → IsFragmentInRange words (v - 1) width
label_inside words width n v h some inside =
    let fits = row_fits (v - 1) width (n - 1) width (omega arith) (omega arith) in
    let few = bits_few n width h.shape in (
      omega (arith, fits, few),
      (omega (arith, fits, h.tight, h.shape.some), omega (arith, fits, h.tight)),
    )
