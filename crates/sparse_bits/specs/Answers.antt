-- What a query of sparse bits answers, over positions that may be anything and over those of the 1 bits.
use Rattle.std.specs.Prelude.{◌≡◌, ℕ, ◌<◌, ◌≤◌, Bool, List, length}
use Rattle.bit_lists.specs.Bits.{item}
use Rattle.bit_lists.specs.Count.{ones_before}
use Rattle.bitm_tables.specs.Answers.{Right}
use Rattle.bitm_tables.specs.declared.answer.Answer.{Answer}
use Rattle.bitm_tables.specs.declared.answer.Answer.TheVariants.{Found, Absent, Wrong}

-- what is answered of a bit is of one of n, and the answer is Absent exactly where there is no such bit
abbrev pub IsBitWithin : {A : Type 0} → ℕ → ℕ → Answer A → Type 0
IsBitWithin n i (Found x) = i < n
IsBitWithin n i Absent = n ≤ i
IsBitWithin n i Wrong = i < n

-- bit i, and Absent exactly where there is none
abbrev pub IsBitOf : List Bool → ℕ → Answer Bool → Type 0
IsBitOf b i = Right (λ x. (i < length b) × (x ≡ item b i)) (length b ≤ i)

-- bit i and the number of 1 bits before it, and Absent exactly where there is no such bit
abbrev pub IsBitAndRankOf : List Bool → ℕ → Answer (Bool × ℕ) → Type 0
IsBitAndRankOf b i = Right (λ x. (i < length b) × (x.0 ≡ item b i) × (x.1 ≡ ones_before b i)) (length b ≤ i)

-- of c bits, the position of the one with rank r is one of n, and the answer is Absent exactly where there are no more
-- than r
abbrev pub IsSelectedWithin : ℕ → ℕ → ℕ → Answer ℕ → Type 0
IsSelectedWithin c n r (Found p) = (r < c) × (p < n)
IsSelectedWithin c n r Absent = c ≤ r
IsSelectedWithin c n r Wrong = r < c
