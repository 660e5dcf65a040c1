-- Labels packed side by side, the labels of siblings, and the ways that words lead.
use Rattle.std.proofs.Common.{◌≡◌, ℕ, zero, suc, ◌+◌, ◌*◌, ◌-◌, ◌^◌, ◌<◌, ◌≤◌, inl, List, [], ◌∷◌, ◌++◌, length, take, get_or, refl, sym, ap, ◌∙◌, ⊎_elim, arith, subst}
use Rattle.std.proofs.lemmas.Bool.{cases_lt}
use Rattle.std.proofs.lemmas.Grind.{same_number_lists}
use Rattle.std.proofs.lemmas.List.FromFn.{length-map-range_with_len, get_or-map-range_with_len}
use Rattle.std.proofs.lemmas.Nat.{row_fits}
use Rattle.std.specs.List.{sum}
use Rattle.bit_lists.specs.Bits.{bits_of}
use Rattle.bit_lists.specs.Number.{number_at, with_number, IsFragmentInRange}
use Rattle.bit_lists.proofs.BitLaws.{bits_are_counted, number_beside_is_kept, read_after_write}
use Rattle.louds.proofs.lemmas.TreeLemmas.{sum_all, sum_order, sum_more}
use Rattle.louds.specs.Labels.{HasLabelRoom, IsChildWith, Leads, Rise, numbers_of}
use Rattle.louds.specs.Tree.{AreChildren, IsChild, IsNextSibling, IsTree}

-- ---- packed numbers

-- number i of the packed numbers
pub packed_at : (words : List ℕ) (width n i : ℕ) → i < n → get_or (numbers_of words width n) i 0 ≡ number_at (bits_of words) (i * width) width
packed_at words width n i less =
    get_or-map-range_with_len (λ k. number_at (bits_of words) (k * width) width) 0 n i i 0 less (omega arith)

-- its fragment stands in the words
pub number_inside : (words : List ℕ) (width n i : ℕ) → HasLabelRoom words width n → i < n → IsFragmentInRange words i width
number_inside words width n i h inside =
    let fits = row_fits i width n width inside (omega arith) in (
      omega (arith, fits, h.short, h.some),
      (omega (arith, fits, h.tight, h.some), omega (arith, fits, h.tight)),
    )

pub numbers_counted : (words : List ℕ) (width n : ℕ) → length (numbers_of words width n) ≡ n
numbers_counted words width n = length-map-range_with_len (λ k. number_at (bits_of words) (k * width) width) 0 n

-- the first n of the numbers are packed
pub record ArePacked (words xs : List ℕ) (width n : ℕ) : Type 0 where
  pub each : (i : ℕ) → i < n → number_at (bits_of words) (i * width) width ≡ get_or xs i 0

pub packed_more : (old new xs : List ℕ) (width n x : ℕ) → ArePacked old xs width n → n < length xs → x ≡ get_or xs n 0
    → length xs * width ≤ 64 * length old → x < 2 ^ width → bits_of new ≡ with_number (bits_of old) (n * width) width x
    → ArePacked new xs width (n + 1)
packed_more old new xs width n x h inside is room fits written = record {
  each = λ i less.
      ap (λ b. number_at b (i * width) width) written
      ∙ ⊎_elim
      (λ before. number_beside_is_kept (bits_of old) (n * width) width x (i * width) width here
      (inl (row_fits i width n width before (omega arith)))
      ∙ h.each i before)
      (λ from.
      let at : i ≡ n = omega arith in
      ap (λ j. number_at (with_number (bits_of old) (n * width) width x) (j * width) width) at
      ∙ read_after_write (bits_of old) (n * width) width x here fits
      ∙ is
      ∙ ap (λ j. get_or xs j 0) (sym at))
      (cases_lt i n);
}
  where
    here : n * width + width ≤ length (bits_of old)
    here = omega (arith, room, bits_are_counted old, row_fits n width (length xs) width inside (omega arith))

pub packed_all : (words xs : List ℕ) (width n : ℕ) → n ≡ length xs → ArePacked words xs width n
    → numbers_of words width (length xs) ≡ xs
packed_all words xs width n all h =
    same_number_lists (numbers_of words width (length xs)) xs (numbers_counted words width (length xs))
    (λ i less.
    let inside : i < length xs = omega (arith, less, numbers_counted words width (length xs)) in
    packed_at words width (length xs) i inside ∙ h.each i (omega arith))

-- ---- siblings

-- a child is a node
pub child_inside : (d : List ℕ) (i k v : ℕ) → IsTree d → IsChild d i k v → v < length d
child_inside d i k v tree c =
    omega (
      arith,
      c.number,
      c.some,
      sum_more d i c.node,
      sum_order d (i + 1) (length d) (omega (arith, c.node)) (omega arith),
      sum_all d (length d) refl,
      tree.count,
    )

module _ (d ls : List ℕ) (i first past : ℕ) (are : AreChildren d i first past) (rise : Rise d ls) where
  -- each node between is a child
  pub child_between : (v : ℕ) → first ≤ v → v < past → IsChild d i (v - first) v
  child_between v from to =
      let e : first + (v - first) ≡ v = omega arith in
      subst (λ (w : ℕ). IsChild d i (v - first) w) e (are.each (v - first) (omega (arith, are.count)))

  next_between : (v : ℕ) → first ≤ v → v + 1 < past → IsNextSibling d v (v + 1)
  next_between v from to =
      let e : v + 1 - first ≡ v - first + 1 = omega arith in
      (i, v - first, child_between v from (omega arith), subst (λ (k : ℕ). IsChild d i k (v + 1)) e (child_between (v + 1) (omega arith) to))

  -- so its label is less than that of each further one
  pub labels_grow : (v m : ℕ) → first ≤ v → v + m + 1 < past → get_or ls v 0 < get_or ls (v + m + 1) 0
  labels_grow v zero from to =
      let e : v + 0 + 1 ≡ v + 1 = omega arith in
      omega (arith, ap (λ k. get_or ls k 0) e, rise v (v + 1) (next_between v from (omega arith)))
  labels_grow v (suc m) from to =
      let e : v + suc m + 1 ≡ v + m + 1 + 1 = omega arith in
      omega (
        arith,
        ap (λ k. get_or ls k 0) e,
        rise (v + m + 1) (v + m + 1 + 1) (next_between (v + m + 1) (omega arith) (omega arith)),
        labels_grow v m from (omega arith),
      )

  pub labels_order : (v w : ℕ) → first ≤ v → v ≤ w → w < past → get_or ls v 0 ≤ get_or ls w 0
  labels_order v w from order to =
      ⊎_elim
      (λ less.
      let e : v + (w - v - 1) + 1 ≡ w = omega arith in
      omega (arith, ap (λ k. get_or ls k 0) e, labels_grow v (w - v - 1) from (omega arith)))
      (λ rest. let e : v ≡ w = omega arith in omega (arith, ap (λ k. get_or ls k 0) e))
      (cases_lt v w)

  -- and each child of the node is one between
  pub between : (k u : ℕ) → IsChild d i k u → (first ≤ u) × (u < past)
  between k u c =
      let mine = are.each k c.some in
      (omega (arith, c.number, mine.number), omega (arith, c.number, mine.number, are.count, c.some))

-- ---- words

-- a word leads on from where its first labels lead
pub leads_more : (d ls word : List ℕ) (c i v u : ℕ) → Leads d ls word i v → IsChildWith d ls v c u → Leads d ls (word ++ c ∷ []) i u
leads_more d ls [] c i v u is child = (u, subst (λ (w : ℕ). IsChildWith d ls w c u) (sym is) child, refl)
leads_more d ls (x ∷ word) c i v u down child = (down.0, down.1, leads_more d ls word c down.0 v u down.2 child)

-- two children of a node with one label are one
pub same_child : (d ls : List ℕ) (i c u w : ℕ) → Rise d ls → IsChildWith d ls i c u → IsChildWith d ls i c w → u ≡ w
same_child d ls i c u w rise a b =
    ⊎_elim
    (λ less. absurd (apart u w at_a.0 less at_b.1 a.1 b.1))
    (λ rest. ⊎_elim (λ more. absurd (apart w u at_b.0 more at_a.1 b.1 a.1)) (λ le. omega arith) (cases_lt w u))
    (cases_lt u w)
  where
    first : ℕ
    first = 1 + sum (take i d)

    past : ℕ
    past = first + get_or d i 0

    are : AreChildren d i first past
    are = record {
      count = refl;
      each = λ k some. record { node = a.0.1.node; some = some; number = refl };
    }

    at_a : (first ≤ u) × (u < past)
    at_a = between d ls i first past are rise a.0.0 u a.0.1

    at_b : (first ≤ w) × (w < past)
    at_b = between d ls i first past are rise b.0.0 w b.0.1

    apart : (x y : ℕ) → first ≤ x → x < y → y < past → get_or ls x 0 ≡ c → get_or ls y 0 ≡ c → ⊥
    apart x y from less to is_x is_y =
        let e : x + (y - x - 1) + 1 ≡ y = omega arith in
        omega (arith, is_x, is_y, ap (λ k. get_or ls k 0) e, labels_grow d ls i first past are rise x (y - x - 1) from (omega arith))

-- where a label leads on to a child, the rest of the word leads on from there
pub leads_rest : (d ls word rest : List ℕ) (c i u v : ℕ) → Rise d ls → word ≡ c ∷ rest → IsChildWith d ls i c u → Leads d ls word i v
    → Leads d ls rest u v
leads_rest d ls word rest c i u v rise is child down =
    let step = subst (λ (w : List ℕ). Leads d ls w i v) is down in
    subst (λ (x : ℕ). Leads d ls rest x v) (same_child d ls i c step.0 u rise step.1 child) step.2

-- the next sibling has the next number
pub next_number : (d : List ℕ) (v w : ℕ) → IsNextSibling d v w → w ≡ v + 1
next_number d v w next = omega (arith, next.2.number, next.3.number)
