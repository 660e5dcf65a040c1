-- A block of a matrix that is written level by level.
use Rattle.std.specs.Prelude.{◌≡◌, ℕ, ◌+◌, ◌-◌, ◌*◌, ◌<◌, ◌≤◌, Bool, List, ◌++◌, length, slice_range, take}
use Rattle.bit_lists.specs.Bits.{bits_of}
use Rattle.matrix_levels.specs.Levels.{column, columns, level, partition}
use Rattle.matrix_levels.specs.Matrix.{matrix_words}
use Rattle.matrix_block.specs.Block.{CanHold, IsBlockOf}

-- the bits that stand where a block of n numbers of w bits has its levels, from word i on
abbrev pub level_bits : List ℕ → ℕ → ℕ → ℕ → List Bool
level_bits block i n w = bits_of (slice_range block i (i + matrix_words n w))

-- the first d levels of these numbers stand in a block
abbrev pub HoldsLevels : List ℕ → ℕ → ℕ → ℕ → List ℕ → Type 0
HoldsLevels numbers w d i block = take (d * length numbers) (level_bits block i (length numbers) w) ≡ columns numbers w d

-- level d was written from the old numbers: the bits of the levels before it stay, bit w - 1 - d of each number stands
-- after them, and the new numbers are the old ones, partitioned by this bit
pub record WritesLevel (w d i : ℕ) (old new old_block new_block : List ℕ) : Type 0 where
  pub bits : take ((d + 1) * length old) (level_bits new_block i (length old) w)
      ≡ take (d * length old) (level_bits old_block i (length old) w) ++ column (w - 1 - d) old
  pub numbers : new ≡ partition (w - 1 - d) old

-- the first d levels of these numbers stand in a block, and `rest` has the numbers in the order of level d
pub record AreLevelsWritten (numbers : List ℕ) (w d i : ℕ) (block rest : List ℕ) : Type 0 where
  pub levels : HoldsLevels numbers w d i block
  pub order : rest ≡ level numbers w d

-- the new block is that of any n numbers that fit into w bits, and whose levels stand in the old one
abbrev pub Completes : ℕ → ℕ → ℕ → List ℕ → List ℕ → Type 0
Completes n w i old new =
    (numbers : List ℕ) → length numbers ≡ n → CanHold numbers w → HoldsLevels numbers w w i old → IsBlockOf numbers w new

-- from these numbers, and a block that may hold anything, each call wrote its level: blocks and rests are those before
-- level 0, before level 1 and so on
pub record WritesLevels (numbers : List ℕ) (w i : ℕ) (blocks rests : ℕ → List ℕ) : Type 0 where
  pub first : rests 0 ≡ numbers
  pub each : (d : ℕ) → d < w → WritesLevel w d i (rests d) (rests (d + 1)) (blocks d) (blocks (d + 1))

-- after any of the calls the levels up to there are written; and a block that is completed after the last of them is that of
-- the numbers, if these fit
pub record LevelsRoundTrip : Type 0 where
  pub written : (numbers : List ℕ) (w d i : ℕ) (blocks rests : ℕ → List ℕ) → WritesLevels numbers w i blocks rests → d ≤ w
      → AreLevelsWritten numbers w d i (blocks d) (rests d)
  pub block : (numbers : List ℕ) (w i : ℕ) (blocks rests : ℕ → List ℕ) (block : List ℕ) → WritesLevels numbers w i blocks rests
      → CanHold numbers w → Completes (length numbers) w i (blocks w) block → IsBlockOf numbers w block
