-- One word at most leads from the root to a node.
use Rattle.std.proofs.Common.{◌≡◌, ℕ, zero, suc, ◌⊎◌, inl, inr, List, [], ◌∷◌, ◌++◌, length, refl, sym, ap, ◌∙◌, subst, ⊎_elim, arith}
use Rattle.std.proofs.lemmas.List.{length_push}
use Rattle.louds.specs.Labels.{IsChildWith, Leads}
use Rattle.louds.specs.Tree.{IsChild}
use Rattle.louds.proofs.lemmas.AboveLemmas.{root_is_no_child}
use Rattle.louds.proofs.lemmas.TreeLemmas.{one_parent}

-- no item, or a last one
split_last : (w : List ℕ) → (w ≡ []) ⊎ ((u : List ℕ) × (c : ℕ) × (w ≡ u ++ c ∷ []))
split_last [] = inl refl
split_last (x ∷ w) =
    ⊎_elim
    (λ none. inr ([], x, ap (λ r. x ∷ r) none))
    (λ some. inr (x ∷ some.0, some.1, ap (λ r. x ∷ r) some.2))
    (split_last w)

-- a word leads to a child of the node to which its labels but the last one lead
leads_back : (d ls w : List ℕ) (c i u : ℕ) → Leads d ls (w ++ c ∷ []) i u → (v : ℕ) × Leads d ls w i v × IsChildWith d ls v c u
leads_back d ls [] c i u down = (i, refl, subst (λ (x : ℕ). IsChildWith d ls i c x) down.2 down.1)
leads_back d ls (x ∷ w) c i u down =
    let r = leads_back d ls w c down.0 u down.2 in (r.0, (down.0, down.1, r.1), r.2)

module _ (d ls : List ℕ) where
  not_the_root : (w : List ℕ) (c v : ℕ) → 0 ≡ v → Leads d ls (w ++ c ∷ []) 0 v → ⊥
  not_the_root w c v is down =
      let r = leads_back d ls w c 0 v down in
      let at = r.2.0 in
      root_is_no_child d r.0 at.0 (subst (λ (x : ℕ). IsChild d r.0 at.0 x) (sym is) at.1)

  -- where both words have a last label, these are the same, and their other labels lead to one node
  same_last : (u x : List ℕ) (c e v : ℕ) → ((p : ℕ) → Leads d ls u 0 p → Leads d ls x 0 p → u ≡ x) → Leads d ls (u ++ c ∷ []) 0 v
      → Leads d ls (x ++ e ∷ []) 0 v → u ++ c ∷ [] ≡ x ++ e ∷ []
  same_last u x c e v rest a b =
      let r = leads_back d ls u c 0 v a in
      let s = leads_back d ls x e 0 v b in
      let parent = (one_parent d r.0 s.0 r.2.0.0 s.2.0.0 v r.2.0.1 s.2.0.1).0 in
      let label : c ≡ e = sym r.2.1 ∙ s.2.1 in
      let front : u ≡ x = rest r.0 r.1 (subst (λ (p : ℕ). Leads d ls x 0 p) (sym parent) s.1) in
      ap (λ (w : List ℕ). w ++ c ∷ []) front ∙ ap (λ (l : ℕ). x ++ l ∷ []) label

  words_are_one : (n : ℕ) (w x : List ℕ) (v : ℕ) → length w ≡ n → Leads d ls w 0 v → Leads d ls x 0 v → w ≡ x
  words_are_one zero w x v len a b =
      ⊎_elim
      (λ none.
      ⊎_elim
      (λ also. none ∙ sym also)
      (λ some.
      absurd (not_the_root some.0 some.1 v (subst (λ (r : List ℕ). Leads d ls r 0 v) none a)
      (subst (λ (r : List ℕ). Leads d ls r 0 v) some.2 b)))
      (split_last x))
      (λ some. absurd (omega (arith, len, ap length some.2, length_push some.0 some.1)))
      (split_last w)
  words_are_one (suc n) w x v len a b =
      ⊎_elim
      (λ none. let z : length {A = ℕ} [] ≡ 0 = refl in absurd (omega (arith, len, ap length none, z)))
      (λ some.
      let down = subst (λ (r : List ℕ). Leads d ls r 0 v) some.2 a in
      ⊎_elim
      (λ none. absurd (not_the_root some.0 some.1 v (subst (λ (r : List ℕ). Leads d ls r 0 v) none b) down))
      (λ other.
      some.2
      ∙ same_last some.0 other.0 some.1 other.1 v
      (λ p c e. words_are_one n some.0 other.0 p (omega (arith, len, ap length some.2, length_push some.0 some.1)) c e) down
      (subst (λ (r : List ℕ). Leads d ls r 0 v) other.2 b)
      ∙ sym other.2)
      (split_last x))
      (split_last w)

  pub one_word : (w x : List ℕ) (v : ℕ) → Leads d ls w 0 v → Leads d ls x 0 v → w ≡ x
  one_word w x v a b = words_are_one (length w) w x v refl a b
