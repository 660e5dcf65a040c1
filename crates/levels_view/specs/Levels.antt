-- The levels of a matrix in tables that may hold anything.
use Rattle.std.specs.Prelude.{◌≡◌, ℕ, ◌*◌, ◌^◌, ◌<◌, ◌≤◌, ◌==◌, Bool, true, false, List, [], ◌∷◌, length}
use Rattle.matrix_levels.specs.Matrix.{LevelTables}

-- a block can hold n numbers of w bits
pub record AreNumbers (n w : ℕ) : Type 0 where
  pub some : 1 ≤ w
  pub most : w ≤ 64
  pub short : w * n < 2 ^ 63

-- the levels of these tables
abbrev pub tables_of : ℕ → ℕ → List ℕ → List ℕ → ℕ → List ℕ → Bool → List ℕ → LevelTables
tables_of n w ones zeros known starts compact quarters = record {
  len = n;
  width = w;
  ones = ones;
  zeros = zeros;
  known = known;
  starts = starts;
  compact = compact;
  quarters = quarters;
}

-- the levels of n numbers of w bits in a block, compact where there are no quarters: no high bits are known from a table of
-- starts
abbrev pub levels_with : ℕ → ℕ → List ℕ → List ℕ → List ℕ → LevelTables
levels_with n w ones zeros quarters = tables_of n w ones zeros 0 (0 ∷ []) (length quarters == 0) quarters

-- the compact ones
abbrev pub levels_of : ℕ → ℕ → List ℕ → List ℕ → LevelTables
levels_of n w ones zeros = levels_with n w ones zeros []

-- the levels are those of numbers that fit into a block, their tables have an entry for each level, and for each number of
-- so many bits as are known, and there are quarters of all bits, or none; entries and quarters may be anything
pub record HasLevels (levels : LevelTables) : Type 0 where
  pub numbers : AreNumbers levels.len levels.width
  pub ones_len : length levels.ones ≡ levels.width
  pub zeros_len : length levels.zeros ≡ levels.width
  pub known_most : levels.known ≤ levels.width
  pub starts_len : length levels.starts ≡ 2 ^ levels.known
  pub no_quarters : levels.compact ≡ true → length levels.quarters ≡ 0
  pub all_quarters : levels.compact ≡ false → levels.width * levels.len ≤ 512 * length levels.quarters
