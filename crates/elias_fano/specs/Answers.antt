-- The answers over borrowed parts: over any parts, and over those of a sequence.
use Rattle.std.specs.Prelude.{◌≡◌, ⊤, ℕ, ◌<◌, ◌≤◌, List, length, slice_index}
use Rattle.std.specs.List.{All}
use Rattle.elias_fano.specs.Sequence.{Reaches, StaysWithin}
use Rattle.bitm_tables.specs.Answers.{Right}
use Rattle.bitm_tables.specs.declared.answer.Answer.{Answer}
use Rattle.bitm_tables.specs.declared.answer.Answer.TheVariants.{Found, Absent, Wrong}

-- Absent exactly where n items have no item i
abbrev pub IsOfIndex : ℕ → ℕ → Answer ℕ → Type 0
IsOfIndex n i (Found x) = i < n
IsOfIndex n i Absent = n ≤ i
IsOfIndex n i Wrong = i < n

-- item i, and Absent exactly where there is none
abbrev pub IsItem : List ℕ → ℕ → Answer ℕ → Type 0
IsItem xs i = Right (λ x. (i < length xs) × (x ≡ slice_index xs i)) (length xs ≤ i)

-- an index that is found is one of n
abbrev pub IsIndexIn : ℕ → Answer ℕ → Type 0
IsIndexIn n (Found p) = p < n
IsIndexIn n Absent = ⊤
IsIndexIn n Wrong = ⊤

-- the successor of v: the least index whose item is at least v, and Absent exactly where each item is less
abbrev pub IsSuccessorOf : List ℕ → ℕ → Answer ℕ → Type 0
IsSuccessorOf xs v = Right (λ p. Reaches xs v p) (All (λ x. x < v) xs)

-- the predecessor of v: the greatest index whose item is at most v, and Absent exactly where each item is greater
abbrev pub IsPredecessorOf : List ℕ → ℕ → Answer ℕ → Type 0
IsPredecessorOf xs v = Right (λ p. StaysWithin xs v p) (All (λ x. v < x) xs)
