-- The five sections of a matrix, one after another.
use Rattle.std.specs.Prelude.{◌≡◌, ℕ, ◌+◌, List, ◌++◌, length, take}
use Rattle.bit_lists.specs.Bits.{bits_of}
use Rattle.bitm_tables.specs.Tables.{IsIndexed}
use Rattle.bitm_block.specs.Layout.{aligned}
use Rattle.levels_view.specs.Check.{AreCounts}
use Rattle.levels_view.specs.Levels.{levels_of}
use Rattle.tables_view.specs.Sizes.{lists_of}
use Rattle.matrix_block.specs.Block.{lower_of_numbers, upper_of_numbers}
use Rattle.matrix_levels.specs.Matrix.{matrix_words}

-- how many words the five sections of a matrix of n numbers of w bits take
abbrev pub matrix_room : ℕ → ℕ → ℕ
matrix_room n w = aligned (matrix_words n w) + (aligned (upper_of_numbers n w) + (aligned (lower_of_numbers n w) + (aligned w + aligned w)))

-- the words of n numbers of w bits are the first ones of a source, and the other lists are their tables and those of
-- the levels
pub record AreCopies (source : List ℕ) (n w : ℕ) (words upper lower ones zeros : List ℕ) : Type 0 where
  pub words_are : words ≡ take (matrix_words n w) source
  pub words_len : length words ≡ matrix_words n w
  pub upper_len : length upper ≡ upper_of_numbers n w
  pub lower_len : length lower ≡ lower_of_numbers n w
  pub ones_len : length ones ≡ w
  pub zeros_len : length zeros ≡ w
  pub indexed : IsIndexed (lists_of words upper lower)
  pub counts : AreCounts (levels_of n w ones zeros) (bits_of words)

-- the words of five sections, each with the words up to the next one
pub record MatrixRoom : Type 0 where
  pub words : List ℕ
  pub words_gap : List ℕ
  pub upper : List ℕ
  pub upper_gap : List ℕ
  pub lower : List ℕ
  pub lower_gap : List ℕ
  pub ones : List ℕ
  pub ones_gap : List ℕ
  pub zeros : List ℕ
  pub zeros_gap : List ℕ

-- words are the five sections of a matrix of n numbers of w bits, copied from a source
pub record IsRoomOf (source : List ℕ) (n w : ℕ) (room : List ℕ) (r : MatrixRoom) : Type 0 where
  pub room_is : room ≡ (r.words ++ r.words_gap) ++ ((r.upper ++ r.upper_gap) ++ ((r.lower ++ r.lower_gap)
      ++ ((r.ones ++ r.ones_gap) ++ (r.zeros ++ r.zeros_gap))))
  pub words_room : length r.words + length r.words_gap ≡ aligned (matrix_words n w)
  pub upper_room : length r.upper + length r.upper_gap ≡ aligned (upper_of_numbers n w)
  pub lower_room : length r.lower + length r.lower_gap ≡ aligned (lower_of_numbers n w)
  pub ones_room : length r.ones + length r.ones_gap ≡ aligned w
  pub zeros_room : length r.zeros + length r.zeros_gap ≡ aligned w
  pub copies : AreCopies source n w r.words r.upper r.lower r.ones r.zeros
