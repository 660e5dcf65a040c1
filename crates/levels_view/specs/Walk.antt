-- Items of a matrix, in memory that may hold anything, that go from level to level, many together.
use Rattle.std.specs.Prelude.{◌≡◌, ℕ, ◌-◌, ◌/◌, ◌^◌, ◌<◌, ◌≤◌, ◌⊎◌, slice_index}
use Rattle.bitm_tables.specs.declared.answer.Answer.{Answer}
use Rattle.bitm_tables.specs.declared.answer.Answer.TheVariants.{Found, Absent, Wrong}
use Rattle.bitm_tables.specs.Tables.{Lists}
use Rattle.matrix_levels.specs.Levels.{level_position}
use Rattle.matrix_levels.specs.Matrix.{IsMatrix, LevelTables, numbers_in}
use Rattle.levels_view.specs.Answers.{IsNumberOf, IsNumberWithin, IsRankOf, IsRankWithin}

-- item i stands at position p of level d, and n has its first d digits. A position past the end says that there is no item i, or
-- that the item went astray, as none does in a matrix
pub record IsOnTheWay (l : LevelTables) (lists : Lists) (d i p n : ℕ) : Type 0 where
  pub outside : l.len ≤ i → l.len ≤ p
  pub small : p < l.len → n < 2 ^ d
  pub inside : IsMatrix l lists → i < l.len → p < l.len
  pub position : IsMatrix l lists → i < l.len → p ≡ level_position (numbers_in l lists) l.width (slice_index (numbers_in l lists) i) d i
  pub digits : IsMatrix l lists → i < l.len → n ≡ slice_index (numbers_in l lists) i / 2 ^ (l.width - d)

-- an answer about number i, in memory that may hold anything and in that of a matrix
pub record IsNumberAt (l : LevelTables) (lists : Lists) (i : ℕ) (answer : Answer ℕ) : Type 0 where
  pub inside : IsNumberWithin l.len l.width i answer
  pub right : IsMatrix l lists → IsNumberOf (numbers_in l lists) i answer

-- what a position p and a number n after the last level say about number i: a position past the end, that there is no answer
pub record IsNumberAndRank (l : LevelTables) (lists : Lists) (i p n : ℕ) : Type 0 where
  pub found : p < l.len → IsNumberAt l lists i (Found n)
  pub unanswered : l.len ≤ p → IsNumberAt l lists i Absent ⊎ IsNumberAt l lists i Wrong

-- a number v stands, or would, at position p of level d where it stands before index i of the list. A position past the end says
-- that it went astray, as none does in a matrix
pub record IsPositionOnTheWay (l : LevelTables) (lists : Lists) (d v i p : ℕ) : Type 0 where
  pub inside : IsMatrix l lists → p ≤ l.len
  pub position : IsMatrix l lists → p ≡ level_position (numbers_in l lists) l.width v d i

-- a number v stands, or would, at the positions p and q of level d where it stands before the indices s and e of the list. A
-- position past the end says that they went astray, as none do in a matrix
pub record AreBothOnTheWay (l : LevelTables) (lists : Lists) (d v s e p q : ℕ) : Type 0 where
  pub first_in : IsMatrix l lists → p ≤ l.len
  pub last_in : IsMatrix l lists → q ≤ l.len
  pub first : IsMatrix l lists → p ≡ level_position (numbers_in l lists) l.width v d s
  pub last : IsMatrix l lists → q ≡ level_position (numbers_in l lists) l.width v d e

-- an answer of how many of the first i numbers are v, in memory that may hold anything and in that of a matrix
pub record IsRankAt (l : LevelTables) (lists : Lists) (v i : ℕ) (answer : Answer ℕ) : Type 0 where
  pub inside : IsRankWithin l.len i answer
  pub right : IsMatrix l lists → IsRankOf (numbers_in l lists) v i answer
