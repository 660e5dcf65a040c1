-- What is kept of lists as cursors pass over them, and what they share.
use Rattle.std.proofs.Common.{◌≡◌, ◌≢◌, ℕ, ◌+◌, ◌-◌, ◌<◌, ◌≤◌, List, [], length, get_or, set, drop, Some, None, refl, sym, ap, ◌∙◌, subst, arith, ⊎_elim, length-drop}
use Rattle.std.proofs.lemmas.Bool.{cases_lt, cases_eq}
use Rattle.std.proofs.lemmas.List.{get_or-drop, get_or-set_same, get_or-set_other, length-set}
use Rattle.postings.specs.Next.{IsNextAtLeast}
use Rattle.postings.specs.Shared.{list_at, IsNumberIn, KeepsFrom}

pub next_kept : (old : List ℕ) (v : ℕ) (o : _) (new : List ℕ) (x : ℕ) → IsNextAtLeast old v o new → v ≤ x → IsNumberIn old x → IsNumberIn new x
next_kept old v o new x h from c =
    let past : h.passed ≤ c.0 = ⊎_elim
    (λ before. absurd (omega (arith, h.less c.0 before, c.2, from)))
    (λ (l : h.passed ≤ c.0). l)
    (cases_lt c.0 h.passed) in
    let is : h.passed + (c.0 - h.passed) ≡ c.0 = omega (arith, past) in
    subst (λ (l : List ℕ). IsNumberIn l x) (sym h.rest)
    (c.0 - h.passed, omega (arith, past, c.1, length-drop h.passed old), get_or-drop h.passed old (c.0 - h.passed) 0 ∙ (ap (λ (k : ℕ). get_or old k 0) is ∙ c.2))

pub next_back : (old : List ℕ) (v : ℕ) (o : _) (new : List ℕ) (x : ℕ) → IsNextAtLeast old v o new → IsNumberIn new x → IsNumberIn old x
next_back old v o new x h c =
    let there : IsNumberIn (drop h.passed old) x = subst (λ (l : List ℕ). IsNumberIn l x) h.rest c in
    (h.passed + there.0, omega (arith, there.1, length-drop h.passed old), sym (get_or-drop h.passed old there.0 0) ∙ there.2)

pub next_none : (old : List ℕ) (v : ℕ) (new : List ℕ) (x : ℕ) → IsNextAtLeast old v None new → v ≤ x → IsNumberIn old x → ⊥
next_none old v new x h from c =
    let there : IsNumberIn [] x = subst (λ (l : List ℕ). IsNumberIn l x) h.answer (next_kept old v None new x h from c) in
    let none : there.0 < 0 = there.1 in omega (arith, none)

pub next_least : (old : List ℕ) (v y : ℕ) (new : List ℕ) (x : ℕ) → IsNextAtLeast old v (Some y) new → v ≤ x → IsNumberIn old x → y ≤ x
next_least old v y new x h from c =
    let there = next_kept old v (Some y) new x h from c in
    omega (arith, h.answer.least there.0 there.1, there.2)

pub next_has : (old : List ℕ) (v y : ℕ) (new : List ℕ) → IsNextAtLeast old v (Some y) new → IsNumberIn new y
next_has old v y new h = (0, h.answer.some, sym h.answer.is)

-- ---- many lists

-- the other lists are as they were
pub at_other : (xss : List (List ℕ)) (i j : ℕ) (new : List ℕ) → j ≢ i → list_at (set xss i new) j ≡ list_at xss j
at_other xss i j new other = get_or-set_other xss i j new [] other

pub at_same : (xss : List (List ℕ)) (i : ℕ) (new : List ℕ) → i < length xss → list_at (set xss i new) i ≡ new
at_same xss i new inside = get_or-set_same xss i new [] inside

pub keeps_all : (xss : List (List ℕ)) (v : ℕ) → KeepsFrom xss xss v
keeps_all xss v = record { count = refl; back = λ i x c. c; kept = λ i x from c. c }

pub keeps_less : (old now : List (List ℕ)) (v w : ℕ) → v ≤ w → KeepsFrom old now v → KeepsFrom old now w
keeps_less old now v w l h = record { count = h.count; back = h.back; kept = λ i x from c. h.kept i x (omega arith) c }

pub keeps_through : (old now next : List (List ℕ)) (v : ℕ) → KeepsFrom old now v → KeepsFrom now next v → KeepsFrom old next v
keeps_through old now next v h k = record {
  count = k.count ∙ h.count;
  back = λ i x c. h.back i x (k.back i x c);
  kept = λ i x from c. k.kept i x from (h.kept i x from c);
}

-- one list is passed over
pub keeps_next : (xss : List (List ℕ)) (i v : ℕ) (o : _) (new : List ℕ) → i < length xss → IsNextAtLeast (list_at xss i) v o new
    → KeepsFrom xss (set xss i new) v
keeps_next xss i v o new inside h = record {
  count = length-set xss i new;
  back = λ j x c. ⊎_elim
      (λ (e : j ≡ i).
      let P : ℕ → Type 0 = λ k. IsNumberIn (list_at (set xss i new) k) x → IsNumberIn (list_at xss k) x in
      subst P (sym e) (λ there. next_back (list_at xss i) v o new x h (subst (λ (l : List ℕ). IsNumberIn l x) (at_same xss i new inside) there)) c)
      (λ (n : j ≢ i). subst (λ (l : List ℕ). IsNumberIn l x) (at_other xss i j new n) c)
      (cases_eq j i);
  kept = λ j x from c. ⊎_elim
      (λ (e : j ≡ i).
      let P : ℕ → Type 0 = λ k. IsNumberIn (list_at xss k) x → IsNumberIn (list_at (set xss i new) k) x in
      subst P (sym e) (λ there. subst (λ (l : List ℕ). IsNumberIn l x) (sym (at_same xss i new inside)) (next_kept (list_at xss i) v o new x h from there)) c)
      (λ (n : j ≢ i). subst (λ (l : List ℕ). IsNumberIn l x) (sym (at_other xss i j new n)) c)
      (cases_eq j i);
}
