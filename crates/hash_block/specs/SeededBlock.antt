-- A block that holds a minimal perfect hash with a seed for each word.
use Rattle.std.specs.Prelude.{◌≡◌, ℕ, ◌^◌, ◌<◌, ◌≤◌, Bool, List, [], ◌∷◌, length, slice_index}
use Rattle.std.specs.Int.{div_ceil}
use Rattle.bit_lists.specs.Bits.{bits_of}
use Rattle.bitm_tables.specs.Tables.{bits_in}
use Rattle.bitm_block.specs.Header.{section_in, IsBlock, IsOfKind, IsVerified}
use Rattle.bitm_block.specs.Layout.{end_of, part_in}
use Rattle.bitm_block.specs.declared.layout.Section.{Section}
use Rattle.block_tables.specs.Sections.{section_of, tables_in}
use Rattle.perfect_hash.specs.Levels.{fall_in}
use Rattle.perfect_hash.specs.Numbers.{AreLevels, AreSizes}
use Rattle.perfect_hash.specs.Perfect.{IsMinimalPerfect}
use Rattle.perfect_hash.specs.Positions.{position_by}
use Rattle.hash_block.specs.Block.{AreParts as AreLevelParts}
use Rattle.hash_block.specs.Parts.{IsHash}
use Rattle.hash_block.specs.SeededParts.{seeded_number, HasSeeds, SeededParts}
use Rattle.hash_block.specs.Seeds.{seed_of, seeds_of}

-- the sections of levels with that many words: the words, their tables, a seed for each word, and the size of each level
abbrev pub seeded_sections : ℕ → ℕ → List Section
seeded_sections words levels =
    section_of 1 words ∷ section_of 2 (div_ceil words (2 ^ 26)) ∷ section_of 3 (div_ceil words 32) ∷ section_of 15 words ∷ section_of 4 levels
    ∷ []

-- the seeds in a block: as many as the directory says
abbrev pub seeds_in : List ℕ → List ℕ
seeds_in block = seeds_of (section_in block 3) (slice_index block 30)

-- the hash whose parts are the first five sections
abbrev pub seeded_in : List ℕ → SeededParts
seeded_in block = record {
  hash = record {
    lists = tables_in block;
    sizes = section_in block 4;
    keys = slice_index block 3;
    seed = slice_index block 8;
  };
  seeds = seeds_in block;
}

-- the block is of the kind of a hash, and its first five sections are words, two tables, seeds and sizes
abbrev pub HasSeededSections : List ℕ → Type 0
HasSeededSections block = IsOfKind 5 (1 ∷ 2 ∷ 3 ∷ 15 ∷ 4 ∷ []) block

-- header and directory are those of a hash with seeds, and the sections are as long as they have to be: nothing is said
-- of what they hold
pub record IsSeededBlock (block : List ℕ) : Type 0 where
  pub is_block : IsBlock block
  pub sections : HasSeededSections block
  pub lengths : HasSeeds (seeded_in block)

-- and the sections are as they were written, and hold a hash; seeds are right whatever they are
pub record IsSoundBlock (block : List ℕ) : Type 0 where
  pub seeded_block : IsSeededBlock block
  pub verified : IsVerified block
  pub hash : IsHash (seeded_in block).hash

-- the seeds after the first n are 0
abbrev pub AreZeroFrom : List ℕ → ℕ → Type 0
AreZeroFrom words n = (k : ℕ) → n ≤ k → seed_of words k ≡ 0

-- the block is that of levels of these sizes, bits and seeds, with the seed that the caller gave for the keys
pub record IsBlockOf (sizes : List ℕ) (b : List Bool) (seeds : List ℕ) (seed : ℕ) (block : List ℕ) : Type 0 where
  pub sound : IsSoundBlock block
  pub sizes_are : (seeded_in block).hash.sizes ≡ sizes
  pub bits : bits_in (tables_in block) ≡ b
  pub seeds_are : seeds_in block ≡ seeds
  pub seed_is : (seeded_in block).hash.seed ≡ seed
  pub padding : AreZeroFrom (section_in block 3) (length seeds)

-- words of levels, few enough, a seed for each, and a block as long as theirs
pub record CanHold (words seeds sizes block : List ℕ) : Type 0 where
  pub short : length words < 2 ^ 58
  pub levels : AreSizes sizes (bits_of words)
  pub seeds_len : length seeds ≡ length words
  pub room : length block ≡ end_of (seeded_sections (length words) (length sizes))

-- these words and tables, and these sizes, and the seeds in words
pub record AreParts (words seeds sizes upper lower packed found : List ℕ) : Type 0 where
  pub levels : AreLevelParts words sizes upper lower found
  pub seeds_are : seeds_of packed (length seeds) ≡ seeds
  pub padding : AreZeroFrom packed (length seeds)

-- they stand where the sections are
pub record StandsIn (words seeds sizes block : List ℕ) : Type 0 where
  pub words_are : part_in (seeded_sections (length words) (length sizes)) block 0 ≡ words
  pub parts : let ss = seeded_sections (length words) (length sizes) in
      AreParts words seeds sizes (part_in ss block 1) (part_in ss block 2) (part_in ss block 3) (part_in ss block 4)

-- a block of levels that number hashes gives each of these a number of its own below their count
abbrev pub RoundTrip : Type 0
RoundTrip =
    (hashes words sizes seeds : List ℕ) (seed : ℕ) (block : List ℕ)
    → AreLevels (fall_in (position_by seeds) sizes) (λ (hash : ℕ). hash) hashes sizes words
    → IsBlockOf sizes (bits_of words) seeds seed block
    → IsSoundBlock block × IsMinimalPerfect (seeded_number (seeded_in block)) hashes
