-- How a cursor over a sequence moves: over the parts of a sequence, and over any parts.
use Rattle.std.specs.Prelude.{◌≡◌, ⊤, ℕ, ◌<◌, ◌≤◌, ◌⊎◌, List, drop, Option, Some, None, MatchOption}
use Rattle.std.specs.List.{All}
use Rattle.bitm_tables.specs.Answers.{Right}
use Rattle.bitm_tables.specs.declared.answer.Answer.{Answer}
use Rattle.bitm_tables.specs.declared.answer.Answer.TheVariants.{Found, Absent, Wrong}
use Rattle.elias_fano.specs.Sequence.{Reaches}
use Rattle.postings.specs.Next.{IsNextAtLeast}
use Rattle.postings.specs.Spot.{IsSpot}
use Rattle.postings.specs.declared.spot.Spot.{Spot}

-- P, unless the answer is Wrong
abbrev pub UnlessWrong : {T : Type 0} → Answer T → Type 0 → Type 0
UnlessWrong (Found x) P = P
UnlessWrong Absent P = P
UnlessWrong Wrong P = ⊤

-- P of what was found, if something was
abbrev pub IfFound : {T : Type 0} → Answer T → (T → Type 0) → Type 0
IfFound (Found x) P = P x
IfFound Absent P = ⊤
IfFound Wrong P = ⊤

-- the first item that is at least v, and Absent exactly where there is none
abbrev pub IsFar : List ℕ → List ℕ → ℕ → Answer Spot → Type 0
IsFar xs words v = Right (λ s. IsSpot xs words s × Reaches xs v s.at) (All (λ x. x < v) xs)

-- one of n numbers, at least v
pub record IsReaching (n v : ℕ) (s : Spot) : Type 0 where
  pub inside : s.at < n
  pub at_least : v ≤ s.number

-- such a number whose one stands later
pub record IsForward (n v : ℕ) (old new : Spot) : Type 0 where
  pub reaching : IsReaching n v new
  pub later : old.one < new.one

-- a spot of one of the items, or the end
pub record IsHere (xs words : List ℕ) (n : ℕ) (s : Spot) : Type 0 where
  pub order : s.at ≤ n
  pub here : s.at < n → IsSpot xs words s

-- the spot of the first item, or the end where there is none
abbrev pub HasStarted : List ℕ → List ℕ → ℕ → Option Spot → Type 0
HasStarted xs words n o = MatchOption o ⊥ (λ s. IsHere xs words n s × (drop s.at xs ≡ xs))

-- what a cursor answers, over the numbers from it on: the first that is at least v
abbrev pub IsAnswered : List ℕ → ℕ → Answer ℕ → List ℕ → Type 0
IsAnswered old v (Found x) new = IsNextAtLeast old v (Some x) new
IsAnswered old v Absent new = IsNextAtLeast old v None new
IsAnswered old v Wrong new = ⊥

-- from a spot of the items, or the end, to the first item from there on that is at least v
pub record IsMove (xs words : List ℕ) (n v : ℕ) (old : Spot) (answer : Answer ℕ) (new : Spot) : Type 0 where
  pub next : IsHere xs words n old → IsAnswered (drop old.at xs) v answer (drop new.at xs)
  pub here : IsHere xs words n old → IsHere xs words n new

-- whatever the parts hold: a number that is found is at least v, and its spot the old one or later in the words
abbrev pub HasMoved : ℕ → ℕ → Spot → Answer ℕ → Spot → Type 0
HasMoved n v old (Found x) new = (x ≡ new.number) × IsReaching n v new × ((new ≡ old) ⊎ (old.one < new.one))
HasMoved n v old Absent new = n ≤ new.at
HasMoved n v old Wrong new = new ≡ old
