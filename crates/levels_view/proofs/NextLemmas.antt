-- Numbers of a range beside a bound, and between two.
use Rattle.std.proofs.Common.{◌≡◌, ℕ, ◌+◌, ◌-◌, ◌<◌, ◌≤◌, ◌⊎◌, inl, inr, nat_lt, List, length, slice_range, All, sym, arith, ⊎_elim}
use Rattle.std.proofs.lemmas.Bool.{cases_lt}
use Rattle.std.proofs.lemmas.List.Sums.{count_by-le-length}
use Rattle.matrix_levels.specs.Numbers.{count_between, count_less}
use Rattle.matrix_levels.proofs.lemmas.CountLemmas.{length-range}
use Rattle.matrix_levels.proofs.lemmas.OrderLemmas.{all-less, between-is, count_less-grows}

-- where no more than those that are less are in the range, all are less
pub next-none : (xs : List ℕ) (s e v : ℕ) → (e - s ≤ count_less (slice_range xs s e) v) ⊎ (length xs < e)
    → (e < s) ⊎ ((length xs < e) ⊎ All (λ y. y < v) (slice_range xs s e))
next-none xs s e v none =
    ⊎_elim
    (λ late. inl late)
    (λ order. inr (⊎_elim
    (λ past. inl past)
    (λ inside. ⊎_elim
    (λ few. inr (all-less (slice_range xs s e) v (e - s) (sym (length-range xs s e order inside)) few))
    (λ past. inl past)
    none)
    (cases_lt (length xs) e)))
    (cases_lt e s)

-- where a number less than v is in the range, there is one to find
pub previous-none : (xs : List ℕ) (s e v k : ℕ) → k + 1 ≡ count_less (slice_range xs s e) v → (e - s ≤ k) ⊎ (length xs < e) → (e < s) ⊎ (length xs < e)
previous-none xs s e v k some none =
    ⊎_elim
    (λ late. inl late)
    (λ order. inr (⊎_elim
    (λ past. past)
    (λ inside. ⊎_elim
    (λ few. absurd (omega (arith, few, some, count_by-le-length (λ x. nat_lt x v) (slice_range xs s e), length-range xs s e order inside)))
    (λ past. past)
    none)
    (cases_lt (length xs) e)))
    (cases_lt e s)

-- what is less than the lower of two bounds, and what is between them, is less than the higher
pub between-more : (ys : List ℕ) (low high : ℕ) → low ≤ high → count_less ys low + count_between ys low high ≡ count_less ys high
between-more ys low high order = omega (arith, between-is ys low high order, count_less-grows ys low high order)
