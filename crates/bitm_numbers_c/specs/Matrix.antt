-- What the exported calls of a matrix in a block answer.
use Rattle.std.specs.Prelude.{◌≡◌, ℕ, ◌<◌, ◌⊎◌, Bool, List, length, slice_range}
use Rattle.bitm_tables.specs.declared.answer.Answer.{Answer}
use Rattle.bitm_tables.specs.declared.answer.Answer.TheVariants.{Absent, Wrong}
use Rattle.bitm_abi.specs.Matrix.{matrix_parts}
use Rattle.bitm_abi.specs.Status.{Exported}
use Rattle.bitm_block.specs.Layout.{end_of}
use Rattle.levels_view.specs.Levels.{AreNumbers}
use Rattle.levels_view.specs.Answers.{IsIndexOf, IsIndexWithin}
use Rattle.levels_view.specs.Walk.{IsNumberAt, IsRankAt}
use Rattle.levels_view.specs.Ranges.{IsNextOf, IsNextWithin, IsPreviousOf, IsPreviousWithin, IsRangeCountOf, IsRangeCountWithin, IsSmallestOf, IsSmallestWithin}
use Rattle.matrix_block.specs.Block.{items_in, sections_with, HasHints, HasLengths, HoldsMatrix, MatrixParts}
use Rattle.matrix_block.specs.RangeLists.{AreDistinctOf, AreDistinctWithin, AreFrequentOf, AreFrequentWithin, AreSharedOf, AreSharedWithin}
use Rattle.matrix_levels.specs.Numbers.{count_less}
use Rattle.bitm_abi.specs.declared.matrix.Matrix.{Matrix}
use Rattle.bitm_numbers_c.specs.declared.matrix.matrix_lists.Sought.{Sought}
use Rattle.bitm_numbers_c.specs.declared.matrix.matrix_lists.Sought.TheVariants.{Rank, Index}

-- A status is 0 where the answer was written, 1 where there is no such number, 2 where a length is wrong, and 3 where the
-- words and tables are not those of a matrix.

-- the lengths of the scratch and of a block are those to write a level of n numbers of w bits, with quarters or without and
-- with hints or without, and there is level d
pub record HasLevelRoom (n w : ℕ) (quarters hints : Bool) (d scratch block : ℕ) : Type 0 where
  pub numbers : AreNumbers n w
  pub level : d < w
  pub scratch_len : scratch ≡ n
  pub block_len : block ≡ end_of (sections_with n w quarters hints)

-- number index: it has no more bits than the width, whatever the words and tables hold, and is that of the matrix where
-- they hold one
abbrev pub IsMatrixNumber : ℕ → MatrixParts → Answer ℕ → Type 0
IsMatrixNumber index parts = IsNumberAt parts.levels parts.lists index

-- how many of the numbers before an index are this one, likewise: at most the index
abbrev pub IsRankOfNumber : ℕ → ℕ → MatrixParts → Answer ℕ → Type 0
IsRankOfNumber number index parts = IsRankAt parts.levels parts.lists number index

-- the index of this number with k such numbers before it, likewise: less than there are numbers
pub record IsIndexOfNumber (number k : ℕ) (parts : MatrixParts) (answer : Answer ℕ) : Type 0 where
  pub inside : IsIndexWithin parts.levels.len answer
  pub right : HoldsMatrix parts → IsIndexOf (items_in parts) number k answer

-- by hints it is right where these are those of the words, too
pub record IsIndexByHints (number k : ℕ) (parts : MatrixParts) (answer : Answer ℕ) : Type 0 where
  pub inside : IsIndexWithin parts.levels.len answer
  pub right : HoldsMatrix parts → HasHints parts → IsIndexOf (items_in parts) number k answer

-- how many numbers of a range are less than a bound, likewise: at most all of them. A range has the numbers from index s on
-- and before index e
pub record IsCount (s e bound : ℕ) (parts : MatrixParts) (answer : Answer ℕ) : Type 0 where
  pub inside : IsRangeCountWithin parts.levels.len s e answer
  pub right : HoldsMatrix parts → IsRangeCountOf (items_in parts) s e (count_less (slice_range (items_in parts) s e) bound) answer

-- the number that would stand at index k if a range were sorted, likewise: of no more bits than the width
pub record IsSmallestIn (s e k : ℕ) (parts : MatrixParts) (answer : Answer ℕ) : Type 0 where
  pub inside : IsSmallestWithin parts.levels.len parts.levels.width s e k answer
  pub right : HoldsMatrix parts → IsSmallestOf (items_in parts) s e k answer

-- the least number of a range that is at least a bound, and the greatest that is less, likewise: on that side of it
pub record IsNextInRange (s e bound : ℕ) (parts : MatrixParts) (answer : Answer ℕ) : Type 0 where
  pub inside : IsNextWithin parts.levels.len parts.levels.width s e bound answer
  pub right : HoldsMatrix parts → IsNextOf (items_in parts) s e bound answer

pub record IsPreviousInRange (s e bound : ℕ) (parts : MatrixParts) (answer : Answer ℕ) : Type 0 where
  pub inside : IsPreviousWithin parts.levels.len parts.levels.width s e bound answer
  pub right : HoldsMatrix parts → IsPreviousOf (items_in parts) s e bound answer

-- the distinct numbers of a range from a bound on that were written, and how often each is there, likewise: they rise
pub record AreDistinctIn (s e from : ℕ) (old_numbers numbers old_counts counts : List ℕ) (parts : MatrixParts) (answer : Answer ℕ) : Type 0 where
  pub inside : AreDistinctWithin parts.levels.len parts.levels.width s e from old_numbers numbers old_counts counts answer
  pub right : HoldsMatrix parts → AreDistinctOf (items_in parts) parts.levels.width s e from numbers counts answer

-- the most frequent numbers of a range that were written, and how often each is there, likewise: of no more bits than the
-- width
pub record AreFrequentIn (s e : ℕ) (old_numbers numbers old_counts counts : List ℕ) (parts : MatrixParts) (answer : Answer ℕ) : Type 0 where
  pub inside : AreFrequentWithin parts.levels.len parts.levels.width s e old_numbers numbers old_counts counts answer
  pub right : HoldsMatrix parts → AreFrequentOf (items_in parts) s e numbers counts answer

-- the numbers of two ranges from a bound on that were written, likewise: they rise. The second has the numbers from index t on
-- and before index f
pub record AreSharedIn (s e t f from : ℕ) (old_numbers numbers : List ℕ) (parts : MatrixParts) (answer : Answer ℕ) : Type 0 where
  pub inside : AreSharedWithin parts.levels.len parts.levels.width s e t f from old_numbers numbers answer
  pub right : HoldsMatrix parts → AreSharedOf (items_in parts) parts.levels.width s e t f from numbers answer

-- there is no number index, or the words and tables are not those of a matrix
abbrev pub IsUnanswered : ℕ → MatrixParts → Type 0
IsUnanswered index parts = IsMatrixNumber index parts Absent ⊎ IsMatrixNumber index parts Wrong

-- the answer to what is sought of a number
abbrev pub Seeks : Sought → ℕ → ℕ → MatrixParts → Answer ℕ → Type 0
Seeks Rank = IsRankOfNumber
Seeks Index = IsIndexOfNumber

-- the status, and the number before and after the call
abbrev pub NumberAnswered : Matrix → ℕ → ℕ → ℕ → ℕ → Type 0
NumberAnswered matrix index = Exported (HasLengths (matrix_parts matrix)) (IsMatrixNumber index (matrix_parts matrix))

abbrev pub RankAnswered : Matrix → ℕ → ℕ → ℕ → ℕ → ℕ → Type 0
RankAnswered matrix number index = Exported (HasLengths (matrix_parts matrix)) (IsRankOfNumber number index (matrix_parts matrix))

abbrev pub IndexAnswered : Matrix → ℕ → ℕ → ℕ → ℕ → ℕ → Type 0
IndexAnswered matrix number k = Exported (HasLengths (matrix_parts matrix)) (IsIndexByHints number k (matrix_parts matrix))

abbrev pub CountAnswered : Matrix → ℕ → ℕ → ℕ → ℕ → ℕ → ℕ → Type 0
CountAnswered matrix s e bound = Exported (HasLengths (matrix_parts matrix)) (IsCount s e bound (matrix_parts matrix))

abbrev pub SmallestAnswered : Matrix → ℕ → ℕ → ℕ → ℕ → ℕ → ℕ → Type 0
SmallestAnswered matrix s e k = Exported (HasLengths (matrix_parts matrix)) (IsSmallestIn s e k (matrix_parts matrix))

abbrev pub NextAnswered : Matrix → ℕ → ℕ → ℕ → ℕ → ℕ → ℕ → Type 0
NextAnswered matrix s e bound = Exported (HasLengths (matrix_parts matrix)) (IsNextInRange s e bound (matrix_parts matrix))

abbrev pub PreviousAnswered : Matrix → ℕ → ℕ → ℕ → ℕ → ℕ → ℕ → Type 0
PreviousAnswered matrix s e bound = Exported (HasLengths (matrix_parts matrix)) (IsPreviousInRange s e bound (matrix_parts matrix))

-- the lengths are right, and there is room for as many counts as numbers
pub record HasRooms (parts : MatrixParts) (numbers counts : List ℕ) : Type 0 where
  pub lengths : HasLengths parts
  pub same : length counts ≡ length numbers

-- the status, and how many items were written
abbrev pub DistinctAnswered : Matrix → ℕ → ℕ → ℕ → List ℕ → List ℕ → List ℕ → List ℕ → ℕ → ℕ → ℕ → Type 0
DistinctAnswered matrix s e from old_numbers numbers old_counts counts =
    Exported (HasRooms (matrix_parts matrix) old_numbers old_counts)
    (AreDistinctIn s e from old_numbers numbers old_counts counts (matrix_parts matrix))

abbrev pub FrequentAnswered : Matrix → ℕ → ℕ → List ℕ → List ℕ → List ℕ → List ℕ → ℕ → ℕ → ℕ → Type 0
FrequentAnswered matrix s e old_numbers numbers old_counts counts =
    Exported (HasRooms (matrix_parts matrix) old_numbers old_counts)
    (AreFrequentIn s e old_numbers numbers old_counts counts (matrix_parts matrix))

abbrev pub SharedAnswered : Matrix → ℕ → ℕ → ℕ → ℕ → ℕ → List ℕ → List ℕ → ℕ → ℕ → ℕ → Type 0
SharedAnswered matrix s e t f from old_numbers numbers =
    Exported (HasLengths (matrix_parts matrix)) (AreSharedIn s e t f from old_numbers numbers (matrix_parts matrix))
