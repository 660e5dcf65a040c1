-- Children by their labels, and the beginnings of words.
use Rattle.std.proofs.Common.{◌≡◌, ◌≢◌, ℕ, suc, ◌+◌, ◌-◌, ◌<◌, ◌≤◌, List, ◌∷◌, length, take, drop, get_or, sym, ap, ◌∙◌, ⊎_elim, subst, arith}
use Rattle.std.proofs.Math.Seq.{drop-cons}
use Rattle.std.proofs.lemmas.Bool.{cases_lt}
use Rattle.std.proofs.lemmas.List.{get_or-take, length-take-le, take_more}
use Rattle.louds.proofs.lemmas.LabelLemmas.{between, child_between, labels_order, leads_more, leads_rest}
use Rattle.louds.specs.Labels.{IsChildWith, Leads, Rise}
use Rattle.louds.specs.Leading.{Grow, IsLabelPosition}
use Rattle.louds.specs.Tree.{AreChildren}

-- ---- children by their labels

module _ (d ls : List ℕ) (i first past : ℕ) (rise : Rise d ls) (are : AreChildren d i first past) where
  -- the labels of children do not fall
  pub grow : Grow ls first past
  grow v w from order to = labels_order d ls i first past are rise v w from order to

  pub is_child : (label low : ℕ) → first ≤ low → low < past → get_or ls low 0 ≡ label → IsChildWith d ls i label low
  is_child label low from to is = ((low - first, child_between d ls i first past are rise low from to), is)

  -- where the first label that is not less is another one, or there is none, no child has it
  pub no_child : (label low : ℕ) → first ≤ low → IsLabelPosition ls first past label low → (low < past → get_or ls low 0 ≢ label)
      → (u : ℕ) → IsChildWith d ls i label u → ⊥
  no_child label low from at other u child =
      let b = between d ls i first past are rise child.0.0 u child.0.1 in
      ⊎_elim
      (λ before. omega (arith, at.less u b.0 before, child.1))
      (λ on.
      let within : low < past = omega (arith, b.1, on) in
      other within (omega (arith, child.1, at.not_less low (omega arith) within, labels_order d ls i first past are rise low u from on b.1)))
      (cases_lt u low)

-- ---- words

-- as far as the beginnings of a word lead on from the root, they lead on from node `at` without their first i labels
abbrev pub GoesOn : List ℕ → List ℕ → List ℕ → ℕ → ℕ → Type 0
GoesOn d ls word i at =
    (k : ℕ) → i ≤ k → k ≤ length word → (v : ℕ) → Leads d ls (take k word) 0 v → Leads d ls (drop i (take k word)) at v

module _ (d ls word : List ℕ) (i at : ℕ) where
  -- what is left of a beginning of a word begins with the next label
  rest : (k : ℕ) → i < k → k ≤ length word → drop i (take k word) ≡ get_or word i 0 ∷ drop (i + 1) (take k word)
  rest k more to =
      let next : suc i ≡ i + 1 = omega arith in
      drop-cons (take k word) i 0 (omega (arith, length-take-le k word to, more))
      ∙ ap (λ j. get_or (take k word) i 0 ∷ drop j (take k word)) next
      ∙ ap (λ x. x ∷ drop (i + 1) (take k word)) (get_or-take k word i 0 more)

  -- the labels so far and one more lead to the child that has it
  pub down_more : (child : ℕ) → i < length word → IsChildWith d ls at (get_or word i 0) child → Leads d ls (take i word) 0 at
      → Leads d ls (take (i + 1) word) 0 child
  down_more child inside has down =
      subst (λ (w : List ℕ). Leads d ls w 0 child) (sym (take_more word i 0 inside))
      (leads_more d ls (take i word) (get_or word i 0) 0 at child down has)

  -- and the beginnings of the word lead on from there
  pub on_more : (child : ℕ) → Rise d ls → IsChildWith d ls at (get_or word i 0) child → GoesOn d ls word i at → GoesOn d ls word (i + 1) child
  on_more child rise has on k from to v leads =
      leads_rest d ls (drop i (take k word)) (drop (i + 1) (take k word)) (get_or word i 0) at child v rise (rest k (omega (arith, from)) to) has
      (on k (omega (arith, from)) to v leads)

  -- where no child has it, no longer beginning leads anywhere
  pub leads_nowhere : ((u : ℕ) → IsChildWith d ls at (get_or word i 0) u → ⊥) → GoesOn d ls word i at → (k : ℕ) → i < k → k ≤ length word
      → (v : ℕ) → Leads d ls (take k word) 0 v → ⊥
  leads_nowhere none on k more to v leads =
      let step = subst (λ (w : List ℕ). Leads d ls w at v) (rest k more to) (on k (omega (arith, more)) to v leads) in
      none step.0 step.1
