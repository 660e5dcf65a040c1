-- Counts of tests, and ranges of a list.
use Rattle.std.proofs.Common.{◌≡◌, ℕ, suc, ◌+◌, ◌-◌, ◌<◌, ◌≤◌, Bool, true, false, cond, List, [], ◌∷◌, length, drop, get_or, count_by, slice_range, refl, sym, ap, ◌∙◌, arith, zero-add}
use Rattle.std.proofs.lemmas.List.{length-take, length-drop, get_or-take, get_or-drop}
use Rattle.std.proofs.lemmas.List.Sums.{length-filter, sum_by-cons}
use Rattle.matrix_levels.proofs.lemmas.FilterLemmas.{filter-all}

-- a test that none passes, and one that all pass
pub count-none : (p : ℕ → Bool) (xs : List ℕ) → ((k : ℕ) → k < length xs → p (get_or xs k 0) ≡ false) → count_by p xs ≡ 0
count-none p [] none = refl
count-none p (x ∷ xs) none =
    sum_by-cons (λ y. cond (p y) 1 0) x xs
    ∙ ap (λ b. cond b 1 0 + count_by p xs) (none 0 (omega arith))
    ∙ zero-add (count_by p xs)
    ∙ count-none p xs (λ k h. none (suc k) (omega arith))

pub count-all : (p : ℕ → Bool) (xs : List ℕ) → ((k : ℕ) → k < length xs → p (get_or xs k 0) ≡ true) → count_by p xs ≡ length xs
count-all p xs all = sym (length-filter p xs) ∙ ap length (filter-all p xs all)

-- tests that agree count the same
pub count-agree : (p q : ℕ → Bool) → ((x : ℕ) → p x ≡ q x) → (xs : List ℕ) → count_by p xs ≡ count_by q xs
count-agree p q same [] = refl
count-agree p q same (x ∷ xs) =
    sum_by-cons (λ y. cond (p y) 1 0) x xs
    ∙ ap (λ b. cond b 1 0 + count_by p xs) (same x)
    ∙ ap (λ n. cond (q x) 1 0 + n) (count-agree p q same xs)
    ∙ sym (sum_by-cons (λ y. cond (q y) 1 0) x xs)

-- a test that is one of two others, never both
pub count-two : (p q r : ℕ → Bool) → ((x : ℕ) → cond (p x) 1 0 ≡ cond (q x) 1 0 + cond (r x) 1 0) → (xs : List ℕ)
    → count_by p xs ≡ count_by q xs + count_by r xs
count-two p q r two [] = refl
count-two p q r two (x ∷ xs) =
    omega (
      arith,
      sum_by-cons (λ y. cond (p y) 1 0) x xs,
      sum_by-cons (λ y. cond (q y) 1 0) x xs,
      sum_by-cons (λ y. cond (r y) 1 0) x xs,
      two x,
      count-two p q r two xs,
    )

-- a range is as long as its ends are apart
pub length-range : (xs : List ℕ) (s e : ℕ) → s ≤ e → e ≤ length xs → length (slice_range xs s e) ≡ e - s
length-range xs s e order inside = omega (arith, length-take (e - s) (drop s xs), length-drop s xs)

-- and item k of it is item s + k
pub get_or-range : (xs : List ℕ) (s e k : ℕ) → k < e - s → get_or (slice_range xs s e) k 0 ≡ get_or xs (s + k) 0
get_or-range xs s e k small = get_or-take (e - s) (drop s xs) k 0 small ∙ get_or-drop s xs k 0
