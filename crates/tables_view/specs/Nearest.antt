-- The nearest bit of a kind on either side of a position.
use Rattle.std.specs.Prelude.{◌≡◌, ℕ, ◌-◌, ◌<◌, ◌≤◌, Bool, not, List, length, min}
use Rattle.bit_lists.specs.Bits.{item}
use Rattle.bit_lists.specs.Count.{IsFirstFrom, IsLastTo}
use Rattle.bitm_tables.specs.Answers.{Right}
use Rattle.bitm_tables.specs.declared.answer.Answer.{Answer}
use Rattle.bitm_tables.specs.declared.answer.Answer.TheVariants.{Found, Absent, Wrong}

-- the least position from s on with bit v, and Absent exactly where there is none
abbrev pub IsNext : List Bool → Bool → ℕ → Answer ℕ → Type 0
IsNext b v s = Right (λ p. IsFirstFrom b v s p) ((p : ℕ) → s ≤ p → p < length b → item b p ≡ not v)

-- the greatest position up to s, or to the last one, with bit v, and Absent exactly where there is none
abbrev pub IsPrevious : List Bool → Bool → ℕ → Answer ℕ → Type 0
IsPrevious b v s =
    Right (λ p. IsLastTo b v (min s (length b - 1)) p) ((p : ℕ) → p ≤ s → p < length b → item b p ≡ not v)

-- a position that is found is answered where it is not before position i, and else Wrong
abbrev pub IsOnlyFrom : ℕ → Answer ℕ → Answer ℕ → Type 0
IsOnlyFrom i (Found p) answer = (i ≤ p → answer ≡ Found p) × (p < i → answer ≡ Wrong)
IsOnlyFrom i Absent answer = answer ≡ Absent
IsOnlyFrom i Wrong answer = answer ≡ Wrong

-- or where it is before position j; where none is found, Wrong
abbrev pub IsOnlyBefore : ℕ → Answer ℕ → Answer ℕ → Type 0
IsOnlyBefore j (Found p) answer = (p < j → answer ≡ Found p) × (j ≤ p → answer ≡ Wrong)
IsOnlyBefore j Absent answer = answer ≡ Wrong
IsOnlyBefore j Wrong answer = answer ≡ Wrong
