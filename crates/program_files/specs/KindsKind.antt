-- The kinds of blocks.
use Rattle.std.specs.Prelude.{ℕ, List, codes, ◌==◌, Option, None, Some, length, nat_lt, slice_index, if◌then◌else◌}
use Rattle.program_files.specs.Kind as numbers
use Rattle.program_files.specs.declared.blocks.kind.Kind.{Kind as NumberKind}
use Rattle.program_files.specs.declared.kinds.kind.Kind.{Kind}
use Rattle.program_files.specs.declared.kinds.kind.Kind.TheVariants.{Numbers, Hash, SeededHash, Dictionary, Text, Trie, Strings}

-- the characters of its name
abbrev pub kind_text : Kind → List ℕ
kind_text (Numbers kind) = numbers.number_kind_text kind
kind_text Hash = codes "hash"
kind_text SeededHash = codes "hash with seeds"
kind_text Dictionary = codes "dictionary"
kind_text Text = codes "text"
kind_text Trie = codes "trie"
kind_text Strings = codes "strings"

-- which perfect hash a block says it is: one with seeds has these as its fourth section, and a dictionary has its keys as
-- its fifth
abbrev pub hash_kind_in : List ℕ → Kind
hash_kind_in block =
    if nat_lt (length block) 33 then Hash
    else if nat_lt (slice_index block 11) 5 then Hash
    else if slice_index block 28 == 15 then SeededHash
    else if slice_index block 32 == 5 then Dictionary
    else Hash

-- the kind of this number in the header of a block that does not hold the numbers of a text
abbrev pub other_kind_of : ℕ → List ℕ → Option Kind
other_kind_of n block =
    if n == 5 then Some (hash_kind_in block)
    else if n == 8 then Some Text
    else if n == 9 then Some Trie
    else if n == 10 then Some Strings
    else if n == 12 then Some Strings
    else None

-- the kind that such a block says it is of
abbrev pub other_kind_in : List ℕ → Option Kind
other_kind_in block = if nat_lt (length block) 2 then None else other_kind_of (slice_index block 1) block

-- a kind of blocks of numbers, or else another
abbrev pub kind_or : Option NumberKind → Option Kind → Option Kind
kind_or (Some kind) other = Some (Numbers kind)
kind_or None other = other

-- the kind that a block says it is of
abbrev pub kind_in : List ℕ → Option Kind
kind_in block = kind_or (numbers.number_kind_in block) (other_kind_in block)
