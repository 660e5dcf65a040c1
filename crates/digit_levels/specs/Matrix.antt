-- Levels of digits in memory, and the numbers whose levels they are.
use Rattle.std.specs.Prelude.{◌≡◌, ℕ, ◌+◌, ◌*◌, ◌/◌, ◌^◌, ◌<◌, ◌≤◌, List, map, length, slice_index, slice_range, count_by, All}
use Rattle.bit_lists.specs.Bits.{IsShort}
use Rattle.digits.specs.Digits.{digit_from}
use Rattle.digits.specs.Tables.{DigitLists, digit_lists, digits_in, HasDigitTables}
use Rattle.digit_levels.specs.Levels.{has_lesser_quad, levels_for, quad_level, quad_position}

-- what levels are seen as: the lines of all levels one after another, their tables, and for each level four numbers,
-- how many of its digits are less than 0, 1, 2 and 3; `len` numbers of `width` bits
pub record DigitMatrix : Type 0 where
  pub lines : List ℕ
  pub tables : List ℕ
  pub lesser : List ℕ
  pub len : ℕ
  pub width : ℕ

-- these lines, tables and counts
abbrev pub digit_matrix : List ℕ → List ℕ → List ℕ → ℕ → ℕ → DigitMatrix
digit_matrix lines tables lesser len width =
    record { lines = lines; tables = tables; lesser = lesser; len = len; width = width }

-- how many levels there are
abbrev pub height : DigitMatrix → ℕ
height m = levels_for m.width

-- the words of the lines of one level, and the numbers of its table
abbrev pub level_words : ℕ → ℕ
level_words n = 8 * (n / 224 + 1)

abbrev pub level_numbers : ℕ → ℕ
level_numbers n = 4 * (n / 224 / 256 + 1)

-- the lines and the table of level d
abbrev pub level_lists : DigitMatrix → ℕ → DigitLists
level_lists m d =
    digit_lists (slice_range m.lines (d * level_words m.len) (d * level_words m.len + level_words m.len))
    (slice_range m.tables (d * level_numbers m.len) (d * level_numbers m.len + level_numbers m.len)) m.len

-- lines, tables and counts have the lengths for `len` numbers of `width` bits, 1 to 64, and the lines fewer than 2^58
-- words; they may hold anything
pub record HasLevelSizes (m : DigitMatrix) : Type 0 where
  pub some : 1 ≤ m.width
  pub most : m.width ≤ 64
  pub short : IsShort m.lines
  pub lines_len : length m.lines ≡ height m * level_words m.len
  pub tables_len : length m.tables ≡ height m * level_numbers m.len
  pub lesser_len : length m.lesser ≡ height m * 4

-- level d holds the digits of the numbers in the order of that level, its table matches them, and the four numbers count
-- the lesser digits
pub record IsLevelOf (xs : List ℕ) (m : DigitMatrix) (d : ℕ) : Type 0 where
  pub digits : digits_in (level_lists m d) ≡ map (digit_from (quad_position (height m) d)) (quad_level xs (height m) d)
  pub tables : HasDigitTables (level_lists m d)
  pub lesser : (e : ℕ) → e < 4
      → slice_index m.lesser (d * 4 + e) ≡ count_by (has_lesser_quad (quad_position (height m) d) e) (quad_level xs (height m) d)

-- these are the levels of numbers xs
pub record AreDigitLevelsOf (xs : List ℕ) (m : DigitMatrix) : Type 0 where
  pub count : m.len ≡ length xs
  pub fit : All (λ x. x < 2 ^ m.width) xs
  pub levels : (d : ℕ) → d < height m → IsLevelOf xs m d
