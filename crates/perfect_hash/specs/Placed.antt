-- What a search for the one of a hash answers.
use Rattle.std.specs.Prelude.{◌≡◌, ⊤, ℕ, ◌<◌, ◌≤◌, List, All, sum, Option, Some, None}
use Rattle.bitm_tables.specs.Answers.{Right}
use Rattle.bitm_tables.specs.declared.answer.Answer.{Answer}
use Rattle.bitm_tables.specs.declared.answer.Answer.TheVariants.{Found, Absent, Wrong}

-- the position, and Absent exactly where there is none
abbrev pub IsPlaced : Option ℕ → Answer ℕ → Type 0
IsPlaced position = Right (λ p. position ≡ Some p) (position ≡ None)

-- what is known where Absent is answered
abbrev pub WhereAbsent : Answer ℕ → Type 0 → Type 0
WhereAbsent (Found p) known = ⊤
WhereAbsent Absent known = known
WhereAbsent Wrong known = ⊤

-- what is known where Wrong is answered
abbrev pub WhereWrong : Answer ℕ → Type 0 → Type 0
WhereWrong (Found p) known = ⊤
WhereWrong Absent known = ⊤
WhereWrong Wrong known = known

-- levels of these sizes, each of at least one word, fit the given number of words
pub record FitIn (words : ℕ) (sizes : List ℕ) : Type 0 where
  pub some : All (λ size. 0 < size) sizes
  pub within : sum sizes ≤ words
