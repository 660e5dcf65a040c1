-- Labels that rise, by the degrees of a tree.
use Rattle.std.proofs.Common.{◌≡◌, ℕ, ◌+◌, ◌-◌, ◌<◌, ◌≤◌, List, length, take, get_or, refl, ap, ⊎_elim, arith}
use Rattle.std.proofs.lemmas.Bool.{cases_lt}
use Rattle.std.specs.List.{sum}
use Rattle.louds.proofs.lemmas.TreeLemmas.{sum_all, sum_more, sum_order}
use Rattle.louds.specs.Labels.{Rise}
use Rattle.louds.specs.Tree.{IsChild, IsTree}

-- the labels of the children of the first n nodes rise
abbrev pub RiseUnder : List ℕ → List ℕ → ℕ → Type 0
RiseUnder d ls n = (i k v w : ℕ) → i < n → IsChild d i k v → IsChild d i (k + 1) w → get_or ls v 0 < get_or ls w 0

module _ (d ls : List ℕ) where
  pub under_none : RiseUnder d ls 0
  under_none i k v w less a b = absurd (omega (arith, less))

  -- those of one node more
  pub under_more : (n : ℕ) → RiseUnder d ls n
      → ((v : ℕ) → 1 + sum (take n d) ≤ v → v + 1 < 1 + sum (take n d) + get_or d n 0 → get_or ls v 0 < get_or ls (v + 1) 0)
      → RiseUnder d ls (n + 1)
  under_more n rise here i k v w less a b =
      ⊎_elim
      (λ before. rise i k v w before a b)
      (λ last.
      let at : i ≡ n = omega arith in
      let sums : sum (take i d) ≡ sum (take n d) = ap (λ j. sum (take j d)) at in
      let degree : get_or d i 0 ≡ get_or d n 0 = ap (λ j. get_or d j 0) at in
      let next : w ≡ v + 1 = omega (arith, a.number, b.number) in
      omega (
        arith,
        here v (omega (arith, a.number, sums)) (omega (arith, a.number, b.some, sums, degree)),
        ap (λ j. get_or ls j 0) next,
      ))
      (cases_lt i n)

  pub under_all : (n : ℕ) → n ≡ length d → RiseUnder d ls n → Rise d ls
  under_all n all rise v w next = rise next.0 next.1 v w (omega (arith, all, next.2.node)) next.2 next.3

  -- the labels of each node's children rise where those of siblings do
  pub of_rise : (n v : ℕ) → n < length d → Rise d ls → 1 + sum (take n d) ≤ v → v + 1 < 1 + sum (take n d) + get_or d n 0
      → get_or ls v 0 < get_or ls (v + 1) 0
  of_rise n v inside rise from to =
      let k = v - 1 - sum (take n d) in
      rise v (v + 1) (
        n,
        k,
        record { node = inside; some = omega arith; number = omega arith },
        record { node = inside; some = omega arith; number = omega arith },
      )

  -- the children of the first nodes are nodes
  pub children_inside : (n : ℕ) → IsTree d → n < length d → 1 + sum (take n d) + get_or d n 0 ≤ length d
  children_inside n tree inside =
      omega (arith, sum_more d n inside, sum_order d (n + 1) (length d) (omega arith) (omega arith), sum_all d (length d) refl, tree.count)
