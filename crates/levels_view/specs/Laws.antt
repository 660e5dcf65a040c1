-- What holds of every matrix.
use Rattle.std.specs.Prelude.{◌*◌, ◌≤◌, length}
use Rattle.bitm_tables.specs.Tables.{bits_in, HasSizes, Lists}
use Rattle.matrix_levels.specs.Matrix.{IsMatrix, LevelTables}
use Rattle.levels_view.specs.Levels.{HasLevels}

-- tables, words and levels are as long as calls over any memory require
pub record Fits (l : LevelTables) (lists : Lists) : Type 0 where
  pub sized : HasSizes lists
  pub room : l.width * l.len ≤ length (bits_in lists)
  pub levels : HasLevels l

abbrev pub MatricesFit : Type 0
MatricesFit = (l : LevelTables) (lists : Lists) → IsMatrix l lists → Fits l lists
