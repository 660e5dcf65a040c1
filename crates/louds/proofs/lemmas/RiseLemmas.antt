-- Labels that rise, by the bits of a tree.
use Rattle.std.proofs.Common.{◌≡◌, ℕ, ◌+◌, ◌*◌, ◌<◌, Bool, true, false, if◌then◌else◌, List, length, get_or, sym, ap, ◌∙◌, subst, ⊎_elim, arith}
use Rattle.std.proofs.lemmas.Bool.{cases_lt}
use Rattle.bit_lists.specs.Bits.{item}
use Rattle.bit_lists.specs.Count.{ones_before, Picks}
use Rattle.bit_lists.proofs.BitLaws.{count_after_item, counts_grow, ones_and_zeros}
use Rattle.louds.proofs.lemmas.HeldLemmas.{last_of_one, next_of_one, one_is}
use Rattle.louds.proofs.lemmas.LabelLemmas.{child_inside, next_number}
use Rattle.louds.proofs.lemmas.TreeLemmas.{sum_all}
use Rattle.louds.specs.Held.{zero_position, IsHeld, IsOneOf}
use Rattle.louds.specs.Labels.{Rise}
use Rattle.louds.specs.Tree.{IsNextSibling, IsTree}

-- a one more, or none
pub one_more : (b : List Bool) (p : ℕ) → p < length b → item b p ≡ true → ones_before b (p + 1) ≡ ones_before b p + 1
one_more b p inside is = count_after_item b true p inside ∙ ap (λ x. ones_before b p + (if x then 1 else 0)) is

pub none_more : (b : List Bool) (p : ℕ) → p < length b → item b p ≡ false → ones_before b (p + 1) ≡ ones_before b p
none_more b p inside is = count_after_item b true p inside ∙ ap (λ x. ones_before b p + (if x then 1 else 0)) is ∙ omega arith

-- the labels of siblings rise, of the first v nodes
abbrev pub RiseTo : List ℕ → List ℕ → ℕ → Type 0
RiseTo d ls n = (v w : ℕ) → v < n → IsNextSibling d v w → get_or ls v 0 < get_or ls w 0

module _ (d ls : List ℕ) where
  pub rise_none : RiseTo d ls 0
  rise_none v w less next = absurd (omega (arith, less))

  -- one node more
  pub rise_more : (n : ℕ) → RiseTo d ls n → (IsNextSibling d n (n + 1) → get_or ls n 0 < get_or ls (n + 1) 0) → RiseTo d ls (n + 1)
  rise_more n rise here v w less next =
      ⊎_elim
      (λ before. rise v w before next)
      (λ last.
      let at : v ≡ n = omega arith in
      let there : w ≡ n + 1 = omega (arith, at, next_number d v w next) in
      let own = subst (λ (x : ℕ). IsNextSibling d n x) there (subst (λ (x : ℕ). IsNextSibling d x w) at next) in
      omega (arith, here own, ap (λ k. get_or ls k 0) at, ap (λ k. get_or ls k 0) there))
      (cases_lt v n)

  pub rise_all : (n : ℕ) → IsTree d → n ≡ length d → RiseTo d ls n → Rise d ls
  rise_all n tree all rise v w next = rise v w (omega (arith, all, child_inside d next.0 next.1 v tree next.2)) next

module _ (d : List ℕ) (n : ℕ) (b : List Bool) (h : IsHeld d n b) where
  pub room : 2 * n < length b
  room = omega (arith, h.tight)

  -- all nodes have a one before the last zero
  pub ones_all : ones_before b (2 * n) ≡ n
  ones_all =
      let last = h.zeros n (omega arith) in
      let at : zero_position d n ≡ 2 * n = omega (arith, h.count, sum_all d n h.count, h.tree.count) in
      omega (arith, ones_and_zeros b (2 * n) (omega (arith, room)), subst (λ (p : ℕ). Picks b false n p) at last)

  -- a one before it is that of a node
  module _ (p v : ℕ) (inside : p < 2 * n) (is : item b p ≡ true) (before : v ≡ ones_before b p) where
    pub node_inside : v < n
    node_inside = omega (arith, before, ones_all, one_more b p (omega (arith, inside, room)) is, counts_grow b true (p + 1) (2 * n) (omega (arith, inside)))

    one : IsOneOf d v p
    one = one_is d n b h v p node_inside (record { inside = omega (arith, inside, room); item = is; before = sym before })

    pub is_next : item b (p + 1) ≡ true → IsNextSibling d v (v + 1)
    is_next next = next_of_one d n b h v p node_inside one next

    pub next_inside : item b (p + 1) ≡ true → v + 1 < n
    next_inside next = let own = is_next next in omega (arith, h.count, child_inside d own.0 (own.1 + 1) (v + 1) h.tree own.3)

    pub no_next : item b (p + 1) ≡ false → IsNextSibling d v (v + 1) → ⊥
    no_next none next =
        let last = last_of_one d n b h v p node_inside one none in
        omega (arith, last next.0 next.1 next.2, next.3.some)
