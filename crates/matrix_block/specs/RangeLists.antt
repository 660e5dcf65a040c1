-- Lists of what ranges of a matrix's numbers have, in a block that may hold anything, and in that of a matrix. A range has the
-- numbers from index s on and before index e.
use Rattle.std.specs.Prelude.{◌≡◌, ℕ, ◌-◌, ◌^◌, ◌<◌, ◌≤◌, ◌⊎◌, List, length, take, drop, slice_range, All}
use Rattle.std.specs.List.{zip}
use Rattle.std.specs.List.Sorted.{IsStrictlyIncreasing}
use Rattle.bitm_tables.specs.Answers.{Right}
use Rattle.bitm_tables.specs.declared.answer.Answer.{Answer}
use Rattle.bitm_tables.specs.declared.answer.Answer.TheVariants.{Found, Absent, Wrong}
use Rattle.matrix_levels.specs.Distinct.{tallies_from}
use Rattle.matrix_levels.specs.Frequent.{AreMostFrequent}
use Rattle.matrix_levels.specs.SharedFrom.{shared_from}

-- the first k of the numbers, each with its count
abbrev pub tallies_in : List ℕ → List ℕ → ℕ → List (ℕ × ℕ)
tallies_in numbers counts k = zip (take k numbers) (take k counts)

-- there was room for the first k items, and those after them are as they were
pub record AreItemsWritten (k : ℕ) (old new : List ℕ) : Type 0 where
  pub room : k ≤ length old
  pub len : length new ≡ length old
  pub behind : drop k new ≡ drop k old

-- the first k numbers that were written have no more than w bits
pub record AreNarrow (w k : ℕ) (old new : List ℕ) : Type 0 where
  pub written : AreItemsWritten k old new
  pub fit : All (λ x. x < 2 ^ w) (take k new)

-- they rise besides, and are at least `from`
pub record AreRisingFrom (w from k : ℕ) (old new : List ℕ) : Type 0 where
  pub narrow : AreNarrow w k old new
  pub rising : IsStrictlyIncreasing (take k new)
  pub least : All (λ x. from ≤ x) (take k new)

-- the first k counts that were written are at least 1 and at most `most`
pub record AreTallyCounts (most k : ℕ) (old new : List ℕ) : Type 0 where
  pub written : AreItemsWritten k old new
  pub some : All (λ c. 1 ≤ c) (take k new)
  pub few : All (λ c. c ≤ most) (take k new)

-- the range ends before it starts, or past n numbers
abbrev pub IsNoRange : ℕ → ℕ → ℕ → Type 0
IsNoRange n s e = (e < s) ⊎ (n < e)

-- of n numbers of w bits, before and after the call: the numbers that were written rise from `from` on, and each count is at
-- most that of the range's numbers
abbrev pub AreDistinctWithin : ℕ → ℕ → ℕ → ℕ → ℕ → List ℕ → List ℕ → List ℕ → List ℕ → Answer ℕ → Type 0
AreDistinctWithin n w s e from old_numbers numbers old_counts counts (Found k) =
    (s ≤ e) × (e ≤ n) × AreRisingFrom w from k old_numbers numbers × AreTallyCounts (e - s) k old_counts counts
AreDistinctWithin n w s e from old_numbers numbers old_counts counts Absent =
    IsNoRange n s e × (numbers ≡ old_numbers) × (counts ≡ old_counts)
AreDistinctWithin n w s e from old_numbers numbers old_counts counts Wrong = (s ≤ e) × (e ≤ n)

-- the numbers of the range that are at least `from`, rising, each with how often it is there: as many as there is room for
abbrev pub AreDistinctOf : List ℕ → ℕ → ℕ → ℕ → ℕ → List ℕ → List ℕ → Answer ℕ → Type 0
AreDistinctOf xs w s e from numbers counts =
    Right (λ k. (s ≤ e) × (e ≤ length xs) × (tallies_in numbers counts k ≡ take (length numbers) (tallies_from (slice_range xs s e) (2 ^ w) from)))
    (IsNoRange (length xs) s e)

-- of n numbers of w bits, before and after the call: each count is at most that of the range's numbers
abbrev pub AreFrequentWithin : ℕ → ℕ → ℕ → ℕ → List ℕ → List ℕ → List ℕ → List ℕ → Answer ℕ → Type 0
AreFrequentWithin n w s e old_numbers numbers old_counts counts (Found k) =
    (s ≤ e) × (e ≤ n) × AreNarrow w k old_numbers numbers × AreTallyCounts (e - s) k old_counts counts
AreFrequentWithin n w s e old_numbers numbers old_counts counts Absent =
    IsNoRange n s e × (numbers ≡ old_numbers) × (counts ≡ old_counts)
AreFrequentWithin n w s e old_numbers numbers old_counts counts Wrong = (s ≤ e) × (e ≤ n)

-- the most frequent numbers of the range, as many as there is room for
abbrev pub AreFrequentOf : List ℕ → ℕ → ℕ → List ℕ → List ℕ → Answer ℕ → Type 0
AreFrequentOf xs s e numbers counts =
    Right (λ k. (s ≤ e) × (e ≤ length xs) × AreMostFrequent (slice_range xs s e) (length numbers) (tallies_in numbers counts k))
    (IsNoRange (length xs) s e)

-- of n numbers of w bits, before and after the call: the numbers that were written rise from `from` on. The second range has
-- the numbers from index t on and before index f
abbrev pub AreSharedWithin : ℕ → ℕ → ℕ → ℕ → ℕ → ℕ → ℕ → List ℕ → List ℕ → Answer ℕ → Type 0
AreSharedWithin n w s e t f from old_numbers numbers (Found k) =
    (s ≤ e) × (e ≤ n) × (t ≤ f) × (f ≤ n) × AreRisingFrom w from k old_numbers numbers
AreSharedWithin n w s e t f from old_numbers numbers Absent = (IsNoRange n s e ⊎ IsNoRange n t f) × (numbers ≡ old_numbers)
AreSharedWithin n w s e t f from old_numbers numbers Wrong = (s ≤ e) × (e ≤ n) × (t ≤ f) × (f ≤ n)

-- the numbers that are in both ranges and at least `from`, rising: as many as there is room for
abbrev pub AreSharedOf : List ℕ → ℕ → ℕ → ℕ → ℕ → ℕ → ℕ → List ℕ → Answer ℕ → Type 0
AreSharedOf xs w s e t f from numbers =
    Right (λ k. (s ≤ e) × (e ≤ length xs) × (t ≤ f) × (f ≤ length xs) × (take k numbers ≡ take (length numbers) (shared_from (slice_range xs s e) (slice_range xs t f) (2 ^ w) from)))
    (IsNoRange (length xs) s e ⊎ IsNoRange (length xs) t f)
