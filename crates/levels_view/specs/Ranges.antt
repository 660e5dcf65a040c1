-- What is answered of a range of a matrix's numbers, in memory that may hold anything, and in that of a matrix. A range
-- has the numbers from index s on and before index e.
use Rattle.std.specs.Prelude.{◌≡◌, ⊤, ℕ, ◌-◌, ◌^◌, ◌<◌, ◌≤◌, ◌⊎◌, List, Some, None, length, slice_range}
use Rattle.bitm_tables.specs.Answers.{Right}
use Rattle.bitm_tables.specs.declared.answer.Answer.{Answer}
use Rattle.bitm_tables.specs.declared.answer.Answer.TheVariants.{Found, Absent, Wrong}
use Rattle.matrix_levels.specs.Numbers.{count_equal, IsNextItem, IsPreviousItem, IsSmallest}

-- of n numbers: no more are counted than the range has, and Absent is answered exactly where it ends before it starts, or
-- past the numbers
abbrev pub IsRangeCountWithin : ℕ → ℕ → ℕ → Answer ℕ → Type 0
IsRangeCountWithin n s e (Found c) = (s ≤ e) × (e ≤ n) × (c ≤ e - s)
IsRangeCountWithin n s e Absent = (e < s) ⊎ (n < e)
IsRangeCountWithin n s e Wrong = (s ≤ e) × (e ≤ n)

-- the given count, and Absent exactly where the range ends before it starts, or past the numbers
abbrev pub IsRangeCountOf : List ℕ → ℕ → ℕ → ℕ → Answer ℕ → Type 0
IsRangeCountOf xs s e count = Right (λ c. (s ≤ e) × (e ≤ length xs) × (c ≡ count)) ((e < s) ⊎ (length xs < e))

-- of n numbers of w bits: a number has no more bits, and Absent is answered exactly where the range has no more than k
-- numbers, or ends past the numbers
abbrev pub IsSmallestWithin : ℕ → ℕ → ℕ → ℕ → ℕ → Answer ℕ → Type 0
IsSmallestWithin n w s e k (Found x) = (k < e - s) × (e ≤ n) × (x < 2 ^ w)
IsSmallestWithin n w s e k Absent = (e - s ≤ k) ⊎ (n < e)
IsSmallestWithin n w s e k Wrong = (k < e - s) × (e ≤ n)

-- the number that would stand at index k if the range were sorted, and Absent exactly where the range has no more than k
-- numbers, or ends past the numbers
abbrev pub IsSmallestOf : List ℕ → ℕ → ℕ → ℕ → Answer ℕ → Type 0
IsSmallestOf xs s e k =
    Right (λ x. (k < e - s) × (e ≤ length xs) × IsSmallest (slice_range xs s e) k x) ((e - s ≤ k) ⊎ (length xs < e))

-- of n numbers of w bits: a number has no more bits, the range has it at least once and not more often than it has
-- numbers, and Absent is answered exactly where the range has no more than k numbers, or ends past the numbers
abbrev pub IsTallyWithin : ℕ → ℕ → ℕ → ℕ → ℕ → Answer (ℕ × ℕ) → Type 0
IsTallyWithin n w s e k (Found t) = (k < e - s) × (e ≤ n) × (t.0 < 2 ^ w) × (1 ≤ t.1) × (t.1 ≤ e - s)
IsTallyWithin n w s e k Absent = (e - s ≤ k) ⊎ (n < e)
IsTallyWithin n w s e k Wrong = (k < e - s) × (e ≤ n)

-- the number that would stand at index k if the range were sorted, with how often the range has it, and Absent exactly
-- where the range has no more than k numbers, or ends past the numbers
abbrev pub IsTallyOf : List ℕ → ℕ → ℕ → ℕ → Answer (ℕ × ℕ) → Type 0
IsTallyOf xs s e k =
    Right (λ t. (k < e - s) × (e ≤ length xs) × IsSmallest (slice_range xs s e) k t.0 × (t.1 ≡ count_equal (slice_range xs s e) t.0))
    ((e - s ≤ k) ⊎ (length xs < e))

-- of n numbers of w bits: a number is at least v and has no more bits
abbrev pub IsNextWithin : ℕ → ℕ → ℕ → ℕ → ℕ → Answer ℕ → Type 0
IsNextWithin n w s e v (Found x) = (s < e) × (e ≤ n) × (v ≤ x) × (x < 2 ^ w)
IsNextWithin n w s e v Absent = ⊤
IsNextWithin n w s e v Wrong = (s ≤ e) × (e ≤ n)

-- the least number of the range that is at least v, and Absent exactly where all are less, or the range ends before it
-- starts, or past the numbers
abbrev pub IsNextOf : List ℕ → ℕ → ℕ → ℕ → Answer ℕ → Type 0
IsNextOf xs s e v =
    Right (λ x. (s < e) × (e ≤ length xs) × IsNextItem (slice_range xs s e) v (Some x))
    ((e < s) ⊎ ((length xs < e) ⊎ IsNextItem (slice_range xs s e) v None))

-- of n numbers of w bits: a number is less than v and has no more bits
abbrev pub IsPreviousWithin : ℕ → ℕ → ℕ → ℕ → ℕ → Answer ℕ → Type 0
IsPreviousWithin n w s e v (Found x) = (s < e) × (e ≤ n) × (x < v) × (x < 2 ^ w)
IsPreviousWithin n w s e v Absent = ⊤
IsPreviousWithin n w s e v Wrong = (s ≤ e) × (e ≤ n)

-- the greatest number of the range that is less than v, and Absent exactly where none is, or the range ends before it
-- starts, or past the numbers
abbrev pub IsPreviousOf : List ℕ → ℕ → ℕ → ℕ → Answer ℕ → Type 0
IsPreviousOf xs s e v =
    Right (λ x. (s < e) × (e ≤ length xs) × IsPreviousItem (slice_range xs s e) v (Some x))
    ((e < s) ⊎ ((length xs < e) ⊎ IsPreviousItem (slice_range xs s e) v None))
