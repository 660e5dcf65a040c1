-- A perfect hash and a dictionary in a block as C passes them, and what the exported calls answer.
use Rattle.std.specs.Prelude.{ℕ, List}
use Rattle.bitm_tables.specs.declared.answer.Answer.{Answer}
use Rattle.bitm_abi.specs.HashBlock.{hash_parts}
use Rattle.bitm_abi.specs.Status.{Exported}
use Rattle.hash_block.specs.Dictionary.{DictionaryParts, HasKeys, IsDictionaryIn, IsKeyFound, IsKeyHeld}
use Rattle.hash_block.specs.Numbered.{CanHoldParts}
use Rattle.bitm_keys_c.specs.declared.dictionary.Dictionary.{Dictionary}

-- A status is 0 where the answer was written, 1 where the number is no key, 2 where a length is wrong, and 3 where the
-- parts are not those of a dictionary.

-- a hash, and the keys in the order of their numbers
abbrev pub dictionary_parts : Dictionary → DictionaryParts
dictionary_parts dictionary = record { hash = hash_parts dictionary.hash dictionary.seed; keys = dictionary.keys.now }

-- as many keys as the hash announces, with the right lengths, and a block as long as theirs
pub record IsWritable (parts : DictionaryParts) (block : List ℕ) : Type 0 where
  pub sized : HasKeys parts
  pub room : CanHoldParts parts block

-- the number of a key: the key stands there, whatever the parts hold; and where they are those of a dictionary, there is
-- none exactly for what is no key
pub record IsKeyNumber (key : ℕ) (parts : DictionaryParts) (answer : Answer ℕ) : Type 0 where
  pub held : IsKeyHeld parts.keys key answer
  pub right : IsDictionaryIn parts → IsKeyFound parts.keys key answer

-- the status, and the number before and after the call
abbrev pub FindAnswered : Dictionary → ℕ → ℕ → ℕ → ℕ → Type 0
FindAnswered dictionary key = Exported (HasKeys (dictionary_parts dictionary)) (IsKeyNumber key (dictionary_parts dictionary))
