-- A write to one word of a list, or to two with the second first: what holds of each word by itself holds of all.
use Rattle.std.proofs.Common.{◌≡◌, ◌≢◌, ℕ, ◌+◌, ◌<◌, List, length, get_or, set, sym, ap, ◌∙◌, ⊎_elim, arith, subst, length-set, get_or-set_same, get_or-set_other}
use Rattle.std.proofs.lemmas.Bool.{cases_eq}

-- F q old new says what became of word q
pub written_at : (F : ℕ → ℕ → ℕ → Type 0) (words : List ℕ) (p y q : ℕ) → q < length words
    → F p (get_or words p 0) y → (q ≢ p → F q (get_or words q 0) (get_or words q 0))
    → F q (get_or words q 0) (get_or (set words p y) q 0)
written_at F words p y q within at other =
    ⊎_elim
    (λ same.
    let P : ℕ → Type 0 = λ k. F k (get_or words k 0) (get_or (set words p y) k 0) in
    subst P (sym same)
    (let Q : ℕ → Type 0 = λ z. F p (get_or words p 0) z in
    subst Q (sym (get_or-set_same words p y 0 (omega arith))) at))
    (λ apart.
    let Q : ℕ → Type 0 = λ z. F q (get_or words q 0) z in
    subst Q (sym (get_or-set_other words p q y 0 apart)) (other apart))
    (cases_eq q p)

-- the word after p first, and then word p
pub written_at_two : (F : ℕ → ℕ → ℕ → Type 0) (words : List ℕ) (p x y q : ℕ) → q < length words
    → F (p + 1) (get_or words (p + 1) 0) x → F p (get_or words p 0) y
    → (q ≢ p → q ≢ p + 1 → F q (get_or words q 0) (get_or words q 0))
    → F q (get_or words q 0) (get_or (set (set words (p + 1) x) p y) q 0)
written_at_two F words p x y q within second first other =
    ⊎_elim
    (λ same.
    let P : ℕ → Type 0 = λ k. F k (get_or words k 0) (get_or (set between p y) k 0) in
    subst P (sym same)
    (let Q : ℕ → Type 0 = λ z. F p (get_or words p 0) z in
    subst Q (sym (get_or-set_same between p y 0 (omega (arith, length-set words (p + 1) x)))) first))
    (λ apart.
    let Q : ℕ → Type 0 = λ z. F q (get_or words q 0) z in
    subst Q (sym (get_or-set_other between p q y 0 apart))
    (written_at F words (p + 1) x q within second (other apart)))
    (cases_eq q p)
  where
    between : List ℕ
    between = set words (p + 1) x

-- the list is as long as it was
pub length-set_two : (words : List ℕ) (p x y : ℕ) → length (set (set words (p + 1) x) p y) ≡ length words
length-set_two words p x y = length-set (set words (p + 1) x) p y ∙ length-set words (p + 1) x

-- a write to the second word leaves the first
pub between_left : (words between : List ℕ) (p x : ℕ) → between ≡ set words (p + 1) x → get_or between p 0 ≡ get_or words p 0
between_left words between p x step =
    ap (λ b. get_or b p 0) step ∙ get_or-set_other words (p + 1) p x 0 (λ e. omega arith)
