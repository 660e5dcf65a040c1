-- Levels that give each of some keys a number of its own.
use Rattle.std.specs.Prelude.{◌≡◌, ℕ, ◌^◌, ◌<◌, List, length, Option}
use Rattle.bit_lists.specs.Bits.{bits_of}
use Rattle.bit_lists.specs.Count.{ones_of}
use Rattle.perfect_hash.specs.Numbers.{number_by}
use Rattle.perfect_hash.specs.Perfect.{IsMinimalPerfect}
use Rattle.bitm_block.specs.Layout.{end_of}
use Rattle.hash_block.specs.Dictionary.{added, dictionary_sections, DictionaryParts}

-- the number of a key by levels of these words and sizes, hashed by a seed
abbrev pub key_number : List ℕ → List ℕ → ℕ → ℕ → Option ℕ
key_number words sizes seed key = number_by sizes (bits_of words) (added seed key)

-- levels of these words and sizes give each of the keys a number of its own below how many there are, and have a 1 bit
-- for each
pub record NumberKeys (words sizes : List ℕ) (seed : ℕ) (keys : List ℕ) : Type 0 where
  pub perfect : IsMinimalPerfect (key_number words sizes seed) keys
  pub ones : ones_of (bits_of words) ≡ length keys

-- few enough keys, and a block as long as theirs
pub record CanHoldParts (parts : DictionaryParts) (block : List ℕ) : Type 0 where
  pub few : length parts.keys < 2 ^ 58
  pub room : length block
      ≡ end_of (dictionary_sections (length parts.hash.lists.words) (length parts.hash.sizes) (length parts.keys))
