-- The block of a hash, plain, with seeds or a dictionary, that is extended by a section is that of the same hash.
use Rattle.std.specs.Prelude.{◌≡◌, ◌⊎◌, ◌↔◌, ℕ, Bool, List, Option, length, slice_index}
use Rattle.bitm_block.specs.Header.{count_in}
use Rattle.bitm_block.specs.declared.layout.Section.{Section}
use Rattle.block_sections.specs.Extended.{IsExtended}
use Rattle.hash_block.specs.Block.{hash_in, IsBlockOf, IsHashBlock, IsSoundBlock}
use Rattle.hash_block.specs.Dictionary.{dictionary_in, IsDictionaryBlock, IsDictionaryOf, IsSoundDictionary}
use Rattle.hash_block.specs.SeededBlock as seeded

-- the section is taken for the keys of a dictionary: the block had four sections, and this one has role 5 and a word for
-- each key of the hash
pub record AddsKeys (block : List ℕ) (added : Section) (words : List ℕ) : Type 0 where
  pub four : count_in block ≡ 4
  pub role : added.role ≡ 5
  pub len : length words ≡ slice_index block 3

-- the new block is opened and checked as the old one, of the same parts, and is the block of the same levels; it is
-- opened as a dictionary exactly where the old one is, or where the section is taken for keys
pub record KeepsHash (block : List ℕ) (added : Section) (words new : List ℕ) : Type 0 where
  pub opened : IsHashBlock block → IsHashBlock new
  pub parts : IsHashBlock block → hash_in new ≡ hash_in block
  pub sound : IsSoundBlock block → IsSoundBlock new
  pub levels : (sizes : List ℕ) (b : List Bool) (seed : ℕ) → IsBlockOf sizes b seed block → IsBlockOf sizes b seed new
  pub keys : IsHashBlock block → IsDictionaryBlock new ↔ (IsDictionaryBlock block ⊎ AddsKeys block added words)

abbrev pub KeepsHashes : Type 0
KeepsHashes =
    (block : List ℕ) (added : Section) (words new : List ℕ) → IsExtended block added words new → KeepsHash block added words new

-- the same of a dictionary, whose keys stand in a fifth section
pub record KeepsDictionary (block new : List ℕ) : Type 0 where
  pub opened : IsDictionaryBlock block → IsDictionaryBlock new
  pub parts : IsDictionaryBlock block → dictionary_in new ≡ dictionary_in block
  pub sound : IsSoundDictionary block → IsSoundDictionary new
  pub keys : (number : ℕ → Option ℕ) (keys : List ℕ) → IsDictionaryOf number keys block → IsDictionaryOf number keys new

abbrev pub KeepsDictionaries : Type 0
KeepsDictionaries = (block : List ℕ) (added : Section) (words new : List ℕ) → IsExtended block added words new → KeepsDictionary block new

-- the same of a hash with seeds
pub record KeepsSeeded (block new : List ℕ) : Type 0 where
  pub opened : seeded.IsSeededBlock block → seeded.IsSeededBlock new
  pub parts : seeded.IsSeededBlock block → seeded.seeded_in new ≡ seeded.seeded_in block
  pub sound : seeded.IsSoundBlock block → seeded.IsSoundBlock new
  pub levels : (sizes : List ℕ) (b : List Bool) (seeds : List ℕ) (seed : ℕ) → seeded.IsBlockOf sizes b seeds seed block
      → seeded.IsBlockOf sizes b seeds seed new

abbrev pub KeepsSeededHashes : Type 0
KeepsSeededHashes = (block : List ℕ) (added : Section) (words new : List ℕ) → IsExtended block added words new → KeepsSeeded block new
