-- The answers to lists of queries.
use Rattle.std.specs.Prelude.{◌≡◌, ◌≢◌, ⊤, ℕ, ◌+◌, ◌-◌, ◌/◌, ◌%◌, ◌^◌, ◌<◌, ◌≤◌, ◌⊎◌, true, false, List, length, slice_index}
use Rattle.bitm_select.specs.Answers.{IsSelectCode}
use Rattle.bitm_tables.specs.Tables.{Lists}
use Rattle.elias_fano.specs.Sequence.{Reaches}
use Rattle.elias_fano.specs.Claims.{ClaimLess}
use Rattle.elias_fano.specs.SequenceParts.{AreHeldParts, SequenceParts}
use Rattle.elias_fano_view.specs.declared.lists.ListAnswer.{ListAnswer}
use Rattle.elias_fano_view.specs.declared.lists.ListAnswer.TheVariants.{All, AbsentAt, WrongAt, WrongLength}

-- how many numbers of n were written
abbrev pub written_count : ℕ → ListAnswer → ℕ
written_count n All = n
written_count n (AbsentAt k) = k
written_count n (WrongAt k) = k
written_count n WrongLength = 0

-- of queries of n items at a list of indices, with the given room: which case the answer is, whatever the parts hold
abbrev pub IsListed : ℕ → List ℕ → ℕ → ListAnswer → Type 0
IsListed n positions room All = (room ≡ length positions) × ((j : ℕ) → j < length positions → slice_index positions j < n)
IsListed n positions room (AbsentAt k) =
    (room ≡ length positions) × (k < length positions) × (n ≤ slice_index positions k) × ((j : ℕ) → j < k → slice_index positions j < n)
IsListed n positions room (WrongAt k) =
    (room ≡ length positions) × (k < length positions) × ((j : ℕ) → j ≤ k → slice_index positions j < n)
IsListed n positions room WrongLength = room ≢ length positions

-- for the items of the list from item k on and before item end, sixteen numbers code the positions of their 1 bits
abbrev pub AreAhead : Lists → List ℕ → ℕ → ℕ → List ℕ → Type 0
AreAhead upper positions k end ones =
    (j : ℕ) → k ≤ j → j < end → j < length positions → IsSelectCode true upper (slice_index positions j) (slice_index ones (j % 16))

-- the bucket of v is the items with its high bits: n codes the 0 bit after it, or the 0 bit before it where less is 1
abbrev pub CodesZero : Lists → ℕ → ℕ → ℕ → ℕ → Type 0
CodesZero upper width less v = IsSelectCode false upper (v / 2 ^ width - less)

abbrev pub IsZeroCode : SequenceParts → ℕ → ℕ → ℕ → Type 0
IsZeroCode parts = CodesZero parts.upper parts.width

-- begin and end code the 0 bits at the ends of the bucket of v, the latter only where there are low bits
pub record CodeEnds (upper : Lists) (width v begin end : ℕ) : Type 0 where
  pub begins : CodesZero upper width 1 v begin
  pub ends : 0 < width → CodesZero upper width 0 v end

abbrev pub AreEndCodes : SequenceParts → ℕ → ℕ → ℕ → Type 0
AreEndCodes parts = CodeEnds parts.upper parts.width

-- for the values of the list from value k on and before value end, sixteen numbers code those 0 bits
abbrev pub AreZerosAhead : SequenceParts → ℕ → List ℕ → ℕ → ℕ → List ℕ → Type 0
AreZerosAhead parts less values k end zeros =
    (j : ℕ) → k ≤ j → j < end → j < length values → IsZeroCode parts less (slice_index values j) (slice_index zeros (j % 16))

-- the answer for right parts is never WrongAt
abbrev pub IsNeverWrong : ListAnswer → Type 0
IsNeverWrong All = ⊤
IsNeverWrong (AbsentAt k) = ⊤
IsNeverWrong (WrongAt k) = ⊥
IsNeverWrong WrongLength = ⊤

-- the first n of these are the items at those indices
abbrev pub AreItems : List ℕ → List ℕ → ℕ → List ℕ → Type 0
AreItems xs positions n ys = (j : ℕ) → j < n → slice_index ys j ≡ slice_index xs (slice_index positions j)

-- the first n of these are the items from that index on
abbrev pub AreItemsFrom : List ℕ → ℕ → ℕ → List ℕ → Type 0
AreItemsFrom xs from n ys = (j : ℕ) → j < n → slice_index ys j ≡ slice_index xs (from + j)

-- each item is less than v
abbrev pub IsAllLess : List ℕ → ℕ → Type 0
IsAllLess xs v = (j : ℕ) → j < length xs → slice_index xs j < v

-- n codes the successor of v, the least index whose number is at least v: whatever the parts hold, below 2^64 - 2 it is
-- an index; where they are those of a sequence, it is the right index, or 2^64 - 1 exactly where each number is less.
-- Whatever they hold, they claim that all numbers before that index are less, or all numbers where it is 2^64 - 1
pub record CodesPosition (len width : ℕ) (low : List ℕ) (upper : Lists) (hints : List ℕ) (v n : ℕ) : Type 0 where
  pub position : n < 2 ^ 64 - 2 → n < len
  pub before : n < 2 ^ 64 - 2 → ClaimLess len width low upper v n
  pub absent : n ≡ 2 ^ 64 - 1 → ClaimLess len width low upper v len
  pub claimed : (xs : List ℕ) → AreHeldParts xs len width low upper hints → (n < 2 ^ 64 - 2) ⊎ (n ≡ 2 ^ 64 - 1)
  pub right : (xs : List ℕ) → AreHeldParts xs len width low upper hints → n < 2 ^ 64 - 2 → Reaches xs v n
  pub none : (xs : List ℕ) → AreHeldParts xs len width low upper hints → n ≡ 2 ^ 64 - 1 → IsAllLess xs v

-- the successor in the parts
abbrev pub IsIndexCode : SequenceParts → ℕ → ℕ → Type 0
IsIndexCode parts = CodesPosition parts.len parts.width parts.low parts.upper parts.hints
