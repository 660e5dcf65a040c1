-- What a selection answers, over memory that may hold anything.
use Rattle.std.specs.Prelude.{◌≡◌, ⊤, ℕ, ◌<◌, ◌≤◌, List, length, slice_index}
use Rattle.bitm_tables.specs.Answers.{Right}
use Rattle.bitm_tables.specs.declared.answer.Answer.{Answer}
use Rattle.bitm_tables.specs.declared.answer.Answer.TheVariants.{Found, Absent, Wrong}
use Rattle.digits.specs.Digits.{digits_before, PicksDigit}

-- a position that is found has digit d
abbrev pub HasDigit : List ℕ → ℕ → Answer ℕ → Type 0
HasDigit digits d (Found p) = (p < length digits) × (slice_index digits p ≡ d)
HasDigit digits d Absent = ⊤
HasDigit digits d Wrong = ⊤

-- the position of digit d with r such digits before it, and Absent exactly where there are at most r of them
abbrev pub IsDigitSelected : List ℕ → ℕ → ℕ → Answer ℕ → Type 0
IsDigitSelected digits d r = Right (λ p. PicksDigit digits d r p) (digits_before d digits (length digits) ≤ r)
