-- What a look-up over words, tables and sizes that may hold anything answers.
use Rattle.std.specs.Prelude.{◌≡◌, ⊤, ℕ, ◌<◌, Option, Some, None}
use Rattle.bitm_tables.specs.Answers.{Right}
use Rattle.bitm_tables.specs.declared.answer.Answer.{Answer}
use Rattle.bitm_tables.specs.declared.answer.Answer.TheVariants.{Found, Absent, Wrong}

-- a number is below the count
abbrev pub IsBelow : ℕ → Answer ℕ → Type 0
IsBelow count (Found n) = n < count
IsBelow count Absent = ⊤
IsBelow count Wrong = ⊤

-- the number, and Absent exactly where there is none
abbrev pub IsNumbered : Option ℕ → Answer ℕ → Type 0
IsNumbered number = Right (λ n. number ≡ Some n) (number ≡ None)
