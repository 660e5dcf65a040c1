-- What says that the tables of levels are those of the words.
use Rattle.std.specs.Prelude.{◌≡◌, ℕ, ◌+◌, ◌-◌, ◌*◌, ◌/◌, ◌^◌, ◌<◌, Bool, false, List, slice_index}
use Rattle.bit_lists.specs.Count.{ones_before, zeros_before}
use Rattle.bitm_tables.specs.Quarters.{AreQuartersOf}
use Rattle.matrix_levels.specs.Levels.{level_position}
use Rattle.matrix_levels.specs.Matrix.{level_items, LevelTables}

-- the entries of level d are the 1 bits before it and its 0 bits
pub record AreCountsAt (l : LevelTables) (b : List Bool) (d : ℕ) : Type 0 where
  pub ones_are : slice_index l.ones d ≡ ones_before b (d * l.len)
  pub zeros_are : zeros_before b (d * l.len) + slice_index l.zeros d ≡ zeros_before b (d * l.len + l.len)

-- those of each level are
abbrev pub AreCounts : LevelTables → List Bool → Type 0
AreCounts l b = (d : ℕ) → d < l.width → AreCountsAt l b d

-- the quarters are those of the bits, where there are any
abbrev pub HasQuarters : LevelTables → List Bool → Type 0
HasQuarters l b = l.compact ≡ false → AreQuartersOf b l.quarters

-- the table of starts says of each number where the numbers that begin with its known bits start after these levels
abbrev pub HasStarts : LevelTables → List Bool → Type 0
HasStarts l b =
    (x : ℕ) → x < 2 ^ l.width
    → slice_index l.starts (x / 2 ^ (l.width - l.known)) ≡ level_position (level_items b l.width l.len) l.width x l.known 0
