-- One cursor of several is asked.
use Rattle.std.proofs.Common.{◌≡◌, ◌≢◌, ℕ, ◌+◌, ◌<◌, ◌≤◌, List, [], length, get_or, set, map, sym, ap, ◌∙◌, subst, arith, ⊎_elim}
use Rattle.std.proofs.lemmas.Bool.{cases_eq}
use Rattle.std.proofs.lemmas.List.{get_or-map, get_or-set_same, get_or-set_other, length-map, map-set}
use Rattle.postings.specs.Next.{IsNextAtLeast}
use Rattle.postings.specs.Shared.{list_at, KeepsFrom, AskedAtMost}
use Rattle.postings.proofs.SharingLemmas.{keeps_next, at_other, at_same}

module _ {C : Type 0} (left : C → List ℕ) (lists : List C) (i : ℕ) (was now : C) (inside : i < length lists) (v : ℕ) (o : _)
    (next : IsNextAtLeast (left (get_or lists i was)) v o (left now)) where
  there : i < length (map left lists)
  there = omega (arith, length-map lists left, inside)

  pub step_next : IsNextAtLeast (list_at (map left lists) i) v o (left now)
  step_next = subst (λ (l : List ℕ). IsNextAtLeast l v o (left now)) (sym (get_or-map left lists i was [] inside)) next

  pub step_keeps : KeepsFrom (map left lists) (map left (set lists i now)) v
  step_keeps = subst (λ (l : List (List ℕ)). KeepsFrom (map left lists) l v) (sym (map-set left lists i now))
      (keeps_next (map left lists) i v o (left now) there step_next)

  pub step_same : list_at (map left (set lists i now)) i ≡ left now
  step_same = ap (λ (l : List (List ℕ)). list_at l i) (map-set left lists i now) ∙ at_same (map left lists) i (left now) there

  pub step_other : (j : ℕ) → j ≢ i → list_at (map left (set lists i now)) j ≡ list_at (map left lists) j
  step_other j d = ap (λ (l : List (List ℕ)). list_at l j) (map-set left lists i now) ∙ at_other (map left lists) i j (left now) d

  pub step_next_there : IsNextAtLeast (list_at (map left lists) i) v o (list_at (map left (set lists i now)) i)
  step_next_there = subst (λ (l : List ℕ). IsNextAtLeast (list_at (map left lists) i) v o l) (sym step_same) step_next

module _ {C : Type 0} (calls : C → ℕ) (lists : List C) (i : ℕ) (was now : C) (inside : i < length lists)
    (counted : calls now ≤ calls (get_or lists i was) + 1) where
  pub step_calls : get_or (map calls (set lists i now)) i 0 ≤ get_or (map calls lists) i 0 + 1
  step_calls =
      let inside' : i < length (map calls lists) = omega (arith, length-map lists calls, inside) in
      omega (arith, ap (λ (l : List ℕ). get_or l i 0) (map-set calls lists i now), get_or-set_same (map calls lists) i (calls now) 0 inside', counted, get_or-map calls lists i was 0 inside)

  pub step_calls_other : (j : ℕ) → j ≢ i → get_or (map calls (set lists i now)) j 0 ≡ get_or (map calls lists) j 0
  step_calls_other j d = ap (λ (l : List ℕ). get_or l j 0) (map-set calls lists i now) ∙ get_or-set_other (map calls lists) i j (calls now) 0 d

  -- no list was asked more than n times before, and this one fewer times
  pub step_asked : (old : List ℕ) (n : ℕ) → AskedAtMost old (map calls lists) n → get_or (map calls lists) i 0 + 1 ≤ get_or old i 0 + n
      → AskedAtMost old (map calls (set lists i now)) n
  step_asked old n h less j = ⊎_elim
      (λ (e : j ≡ i).
      let P : ℕ → Type 0 = λ k. get_or (map calls (set lists i now)) k 0 ≤ get_or old k 0 + n in
      subst P (sym e) (omega (arith, step_calls, less)))
      (λ (d : j ≢ i). omega (arith, step_calls_other j d, h j))
      (cases_eq j i)

  -- the others are asked once, and this one no more
  pub step_once : (later : List ℕ) → AskedAtMost (map calls (set lists i now)) later 1 → get_or later i 0 ≡ get_or (map calls (set lists i now)) i 0
      → AskedAtMost (map calls lists) later 1
  step_once later h first j = ⊎_elim
      (λ (e : j ≡ i).
      let P : ℕ → Type 0 = λ k. get_or later k 0 ≤ get_or (map calls lists) k 0 + 1 in
      subst P (sym e) (omega (arith, step_calls, first)))
      (λ (d : j ≢ i). omega (arith, step_calls_other j d, h j))
      (cases_eq j i)
