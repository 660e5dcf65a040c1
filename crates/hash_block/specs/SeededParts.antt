-- A hash with a seed for each word, and the number that it gives a hash.
use Rattle.std.specs.Prelude.{◌≡◌, ℕ, List, Option, length}
use Rattle.bitm_tables.specs.Tables.{bits_in}
use Rattle.perfect_hash.specs.Levels.{fall_in}
use Rattle.perfect_hash.specs.Numbers.{number_in}
use Rattle.perfect_hash.specs.Positions.{position_by}
use Rattle.hash_block.specs.Parts.{HasLengths, HashParts}

-- the parts of a hash, and a seed for each word of all levels
pub record SeededParts : Type 0 where
  pub hash : HashParts
  pub seeds : List ℕ

-- the hash has the right lengths, and there are as many seeds as words: they may hold anything
pub record HasSeeds (parts : SeededParts) : Type 0 where
  pub lengths : HasLengths parts.hash
  pub seeds : length parts.seeds ≡ length parts.hash.lists.words

-- where a hash falls, by its level and the words of this
abbrev pub fall_by : SeededParts → ℕ → ℕ → ℕ → ℕ
fall_by parts = fall_in (position_by parts.seeds) parts.hash.sizes

-- the number of a hash
abbrev pub seeded_number : SeededParts → ℕ → Option ℕ
seeded_number parts = number_in (fall_by parts) parts.hash.sizes (bits_in parts.hash.lists)
