-- What a view of a hash has, and when these are the parts of a hash.
use Rattle.std.specs.Prelude.{◌≡◌, ℕ, ◌≤◌, List, length}
use Rattle.bit_lists.specs.Count.{ones_of}
use Rattle.bitm_tables.specs.Tables.{bits_in, HasSizes, HasTables, Lists}
use Rattle.perfect_hash.specs.Numbers.{AreSizes}

-- the words of all levels with their tables, how many words each level has, the number of keys, and the seed that the
-- caller hashed them by
pub record HashParts : Type 0 where
  pub lists : Lists
  pub sizes : List ℕ
  pub keys : ℕ
  pub seed : ℕ

-- few enough words for an index, tables of the right lengths, and few enough levels: they may hold anything
pub record HasLengths (parts : HashParts) : Type 0 where
  pub sized : HasSizes parts.lists
  pub few : length parts.sizes ≤ 256

-- the tables are those of the words, these those of levels of these sizes, with a 1 bit for each key
pub record IsHash (parts : HashParts) : Type 0 where
  pub tables : HasTables parts.lists
  pub levels : AreSizes parts.sizes (bits_in parts.lists)
  pub ones : ones_of (bits_in parts.lists) ≡ parts.keys
