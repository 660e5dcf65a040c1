-- What rank answers, over tables that may hold anything and over those of the words.
use Rattle.std.specs.Prelude.{◌≡◌, ℕ, ◌<◌, ◌≤◌, Bool, List, length}
use Rattle.bit_lists.specs.Count.{count_before}
use Rattle.bitm_tables.specs.Answers.{Right}
use Rattle.bitm_tables.specs.declared.answer.Answer.{Answer}
use Rattle.bitm_tables.specs.declared.answer.Answer.TheVariants.{Found, Absent, Wrong}

-- of the first i of `len` bits at most i are counted, and the answer is Absent exactly where there are fewer than i
-- bits
abbrev pub IsCountWithin : ℕ → ℕ → Answer ℕ → Type 0
IsCountWithin len i (Found n) = (i ≤ len) × (n ≤ i)
IsCountWithin len i Absent = len < i
IsCountWithin len i Wrong = i ≤ len

-- how many of the first i bits are v, and Absent exactly where there are fewer bits
abbrev pub IsRanked : List Bool → Bool → ℕ → Answer ℕ → Type 0
IsRanked b v i = Right (λ n. (i ≤ length b) × (n ≡ count_before b v i)) (length b < i)
