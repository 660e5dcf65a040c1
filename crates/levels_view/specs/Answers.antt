-- What is answered of a matrix in memory that may hold anything, and in that of a matrix.
use Rattle.std.specs.Prelude.{◌≡◌, ⊤, ℕ, ◌^◌, ◌<◌, ◌≤◌, ◌⊎◌, List, Option, Some, None, length, slice_index}
use Rattle.bitm_tables.specs.Answers.{Right}
use Rattle.bitm_tables.specs.declared.answer.Answer.{Answer}
use Rattle.bitm_tables.specs.declared.answer.Answer.TheVariants.{Found, Absent, Wrong}
use Rattle.matrix_levels.specs.Numbers.{occurrences_before, PicksItem}

-- of n numbers of w bits: a number has no more bits, and Absent is answered exactly where there is no number i
abbrev pub IsNumberWithin : ℕ → ℕ → ℕ → Answer ℕ → Type 0
IsNumberWithin n w i (Found x) = (i < n) × (x < 2 ^ w)
IsNumberWithin n w i Absent = n ≤ i
IsNumberWithin n w i Wrong = i < n

-- number i, and Absent exactly where there is none
abbrev pub IsNumberOf : List ℕ → ℕ → Answer ℕ → Type 0
IsNumberOf xs i = Right (λ x. (i < length xs) × (x ≡ slice_index xs i)) (length xs ≤ i)

-- of n numbers: at most i of the first i are a number, and Absent is answered exactly where there are fewer than i
abbrev pub IsRankWithin : ℕ → ℕ → Answer ℕ → Type 0
IsRankWithin n i (Found c) = (i ≤ n) × (c ≤ i)
IsRankWithin n i Absent = n < i
IsRankWithin n i Wrong = i ≤ n

-- how many of the first i numbers are v, and Absent exactly where there are fewer than i
abbrev pub IsRankOf : List ℕ → ℕ → ℕ → Answer ℕ → Type 0
IsRankOf xs v i = Right (λ c. (i ≤ length xs) × (c ≡ occurrences_before xs v i)) (length xs < i)

-- of n numbers: an index is that of a number
abbrev pub IsIndexWithin : ℕ → Answer ℕ → Type 0
IsIndexWithin n (Found p) = p < n
IsIndexWithin n Absent = ⊤
IsIndexWithin n Wrong = ⊤

-- of the items: an index of v with k such before it, and Absent exactly where there are no more than k of them in the list
abbrev pub IsIndexAmong : List ℕ → List ℕ → ℕ → ℕ → Answer ℕ → Type 0
IsIndexAmong xs items v k = Right (λ p. PicksItem items v k p) (occurrences_before xs v (length xs) ≤ k)

-- the index of v with k such numbers before it, and Absent exactly where there are no more than k of them
abbrev pub IsIndexOf : List ℕ → ℕ → ℕ → Answer ℕ → Type 0
IsIndexOf xs = IsIndexAmong xs xs

-- of n numbers of w bits: a number has no more bits, at most i before it are the same, and Absent is answered exactly where
-- there is no number i
abbrev pub IsItemWithin : ℕ → ℕ → ℕ → Answer (ℕ × ℕ) → Type 0
IsItemWithin n w i (Found x) = (i < n) × (x.0 < 2 ^ w) × (x.1 ≤ i)
IsItemWithin n w i Absent = n ≤ i
IsItemWithin n w i Wrong = i < n

-- number i and how many before it are the same, and Absent exactly where there is no such number
abbrev pub IsItemOf : List ℕ → ℕ → Answer (ℕ × ℕ) → Type 0
IsItemOf xs i =
    Right (λ x. (i < length xs) × (x.0 ≡ slice_index xs i) × (x.1 ≡ occurrences_before xs x.0 i)) (length xs ≤ i)

-- of n numbers: at most s of the first s and at most e of the first e are a number, and Absent is answered exactly where
-- there are fewer than s or fewer than e
abbrev pub AreRanksWithin : ℕ → ℕ → ℕ → Answer (ℕ × ℕ) → Type 0
AreRanksWithin n s e (Found c) = (s ≤ n) × (e ≤ n) × (c.0 ≤ s) × (c.1 ≤ e)
AreRanksWithin n s e Absent = (n < s) ⊎ (n < e)
AreRanksWithin n s e Wrong = (s ≤ n) × (e ≤ n)

-- how many of the first s numbers are v, and of the first e, and Absent exactly where there are fewer than s or than e
abbrev pub AreRanksOf : List ℕ → ℕ → ℕ → ℕ → Answer (ℕ × ℕ) → Type 0
AreRanksOf xs v s e =
    Right (λ c. (s ≤ length xs) × (e ≤ length xs) × (c.0 ≡ occurrences_before xs v s) × (c.1 ≡ occurrences_before xs v e))
    ((length xs < s) ⊎ (length xs < e))

-- what was found, or that words and tables are wrong
abbrev pub found_or_wrong : {X : Type 0} → Option X → Answer X
found_or_wrong (Some x) = Found x
found_or_wrong None = Wrong
