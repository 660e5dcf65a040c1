-- A perfect hash as C passes it, and the number of a hash.
use Rattle.std.specs.Prelude.{◌≡◌, ℕ, ◌≤◌, ◌⊎◌, List, [], ◌∷◌, Option, length}
use Rattle.bitm_tables.specs.declared.answer.Answer.{Answer}
use Rattle.bit_lists.specs.Count.{ones_of}
use Rattle.bitm_tables.specs.Tables.{HasSizes, HasTables, Lists, bits_in}
use Rattle.tables_view.specs.Sizes.{lists_of}
use Rattle.perfect_hash.specs.Asking.{IsBelow, IsNumbered}
use Rattle.perfect_hash.specs.Levels.{fall_in}
use Rattle.perfect_hash.specs.Numbers.{number_in, AreSizes}
use Rattle.perfect_hash.specs.Positions.{position_by, position_in}
use Rattle.bitm_abi.specs.declared.hash.Hash.{Hash}
use Rattle.bitm_abi.specs.declared.hash.SeededHash.{SeededHash}

-- the words of all levels and their tables, the words of each level, the number of keys, and the seeds
pub record HashLists : Type 0 where
  pub lists : Lists
  pub sizes : List ℕ
  pub keys : ℕ
  pub seeds : List ℕ

abbrev pub hash_lists : Hash → Lists
hash_lists h = lists_of h.index.words.now h.index.upper.now h.index.lower.now

abbrev pub parts_of : Hash → HashLists
parts_of h = record { lists = hash_lists h; sizes = h.sizes.now; keys = h.keys; seeds = [] }

abbrev pub seeded_parts : SeededHash → HashLists
seeded_parts h = record { lists = hash_lists h.hash; sizes = h.hash.sizes.now; keys = h.hash.keys; seeds = h.seeds.now }

-- the lengths are those of a hash: a seed for each word, or none
pub record CanBeHash (h : HashLists) : Type 0 where
  pub tables : HasSizes h.lists
  pub few : length h.sizes ≤ 256
  pub seeds : (length h.seeds ≡ 0) ⊎ (length h.seeds ≡ length h.lists.words)

-- where hashes fall: by seeds, or by their bits alone where there are none
abbrev pub fall_of : List ℕ → ℕ → ℕ → ℕ → ℕ → ℕ
fall_of [] = λ _. position_in
fall_of (seed ∷ seeds) = position_by (seed ∷ seeds)

-- the number of a hash in these levels
abbrev pub hash_number : HashLists → ℕ → Option ℕ
hash_number h = number_in (fall_in (fall_of h.seeds) h.sizes) h.sizes (bits_in h.lists)

-- these are levels, with at most as many 1 bits as keys, and their tables
pub record IsHashOf (h : HashLists) : Type 0 where
  pub tables : HasTables h.lists
  pub sized : AreSizes h.sizes (bits_in h.lists)
  pub enough : ones_of (bits_in h.lists) ≤ h.keys

-- the number of a hash, below the number of keys; where the parts are those of a hash, it is the right number
pub record IsHashNumber (h : HashLists) (hash : ℕ) (answer : Answer ℕ) : Type 0 where
  pub below : IsBelow h.keys answer
  pub counts : IsHashOf h → IsNumbered (hash_number h hash) answer
