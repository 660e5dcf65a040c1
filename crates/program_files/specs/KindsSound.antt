-- Blocks that are as they were written.
use Rattle.std.specs.Prelude.{◌≡◌, ℕ, List, Some, IsSomeAnd}
use Rattle.hash_block.specs.Block as hash
use Rattle.hash_block.specs.Dictionary.{IsSoundDictionary}
use Rattle.program_files.specs.Bytes.{words_of_bytes}
use Rattle.program_files.specs.Sound as numbers
use Rattle.hash_block.specs.SeededBlock as seeded
use Rattle.hash_block.specs.StringsBlock as strings
use Rattle.text_block.specs.Block as text
use Rattle.tree_block.specs.TrieBlock as trie
use Rattle.program_files.specs.KindsKind.{kind_in}
use Rattle.program_files.specs.declared.kinds.kind.Kind.{Kind}
use Rattle.program_files.specs.declared.kinds.kind.Kind.TheVariants.{Numbers, Hash, SeededHash, Dictionary, Text, Trie, Strings}

-- the block is of the kind, as it was written
abbrev pub IsSoundOf : Kind → List ℕ → Type 0
IsSoundOf (Numbers kind) block = numbers.AreSoundNumbersOf kind block
IsSoundOf Hash block = hash.IsSoundBlock block
IsSoundOf SeededHash block = seeded.IsSoundBlock block
IsSoundOf Dictionary block = IsSoundDictionary block
IsSoundOf Text block = text.IsSoundBlock block
IsSoundOf Trie block = trie.IsSoundBlock block
IsSoundOf Strings block = strings.IsSoundBlock block

-- the block is of the kind that it says, as it was written
pub record IsSound (block : List ℕ) : Type 0 where
  pub kind : Kind
  pub says : kind_in block ≡ Some kind
  pub sound : IsSoundOf kind block

-- the bytes are those of such a block
abbrev pub IsSoundFile : List ℕ → Type 0
IsSoundFile bytes = IsSomeAnd (words_of_bytes bytes) IsSound
