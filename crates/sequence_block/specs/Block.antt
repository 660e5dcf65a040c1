-- A block that holds a monotone sequence, and blocks of other kinds that hold one in the same sections.
use Rattle.std.specs.Prelude.{◌≡◌, ℕ, ◌^◌, ◌<◌, List, [], ◌∷◌, length, slice_index}
use Rattle.std.specs.List.Sorted.{IsNonDecreasing}
use Rattle.bitm_block.specs.Header.{section_in, IsBlock, IsOfKind, IsVerified}
use Rattle.bitm_block.specs.Layout.{end_of, part_in}
use Rattle.bitm_block.specs.declared.head.Head.{Head}
use Rattle.bitm_block.specs.declared.layout.Section.{Section}
use Rattle.bitm_tables.specs.Tables.{HasSizes}
use Rattle.tables_view.specs.Sizes.{lists_of}
use Rattle.bitm_selection.specs.Hints.{hints_len, Lead}
use Rattle.block_tables.specs.Hints.{hints_in}
use Rattle.block_tables.specs.Sections.{section_of, tables_in}
use Rattle.elias_fano.specs.SequenceParts.{parts_of, with_hints, AreParts, HasLengths, Holds, SequenceParts}
use Rattle.elias_fano.specs.Parts.{width_of}
use Rattle.elias_fano.specs.Sequence.{largest}
use Rattle.elias_fano_view.specs.Sizes.{sizes_of, HasPartRoom}

-- the numbers of the header of n numbers with l low bits in a block of a kind, which has the number b besides
abbrev pub numbers_head : ℕ → ℕ → ℕ → ℕ → Head
numbers_head kind b n l = record { kind = kind; len = n; width = l; ones_log2 = 0; zeros_log2 = 0; a = 0; b = b; c = 0 }

-- how many words the hints take of n numbers, the largest of them u
unfoldable pub numbers_hints : ℕ → ℕ → ℕ
numbers_hints n u = hints_len n (sizes_of n u).words

-- the sections of n numbers, the largest of them u: the words of the high bits, their tables, the low bits, and hints
abbrev pub sequence_sections : ℕ → ℕ → List Section
sequence_sections n u =
    section_of 1 (sizes_of n u).words ∷ section_of 2 (sizes_of n u).upper ∷ section_of 3 (sizes_of n u).lower ∷ section_of 9 (sizes_of n u).low
    ∷ section_of 22 (numbers_hints n u) ∷ []

-- the sections of these numbers
abbrev pub sections_of : List ℕ → List Section
sections_of xs = sequence_sections (length xs) (largest xs)

-- the lists are the parts of the sequence xs, and as long as these need
pub record ArePartsWritten (xs low words upper lower : List ℕ) : Type 0 where
  pub room : HasPartRoom xs low words upper lower
  pub holds : Holds xs (parts_of (length xs) (width_of xs) low (lists_of words upper lower))

-- the hints are those of the words of the high bits of the sequence xs
pub record AreHintsWritten (xs words hints : List ℕ) : Type 0 where
  pub room : length hints ≡ hints_len (length xs) (length words)
  pub lead : Lead (length xs) hints words

-- they stand where the sections of the numbers are
abbrev pub StandsIn : List ℕ → List ℕ → Type 0
StandsIn xs block =
    let ss = sections_of xs in
    ArePartsWritten xs (part_in ss block 3) (part_in ss block 0) (part_in ss block 1) (part_in ss block 2)
    × AreHintsWritten xs (part_in ss block 0) (part_in ss block 4)

-- the sequence whose parts are the first four sections, with the hints that a fifth one may have
abbrev pub sequence_in : List ℕ → SequenceParts
sequence_in block =
    with_hints (hints_in block 4 (slice_index block 3) (length (tables_in block).words))
    (parts_of (slice_index block 3) (slice_index block 4) (section_in block 3) (tables_in block))

-- the block is of a kind, and its first four sections are words, two tables and low bits
abbrev pub HasSequenceSections : ℕ → List ℕ → Type 0
HasSequenceSections kind block = IsOfKind kind (1 ∷ 2 ∷ 3 ∷ 9 ∷ []) block

-- header and directory are those of a sequence in a block of a kind, and the sections are as long as its numbers need:
-- nothing is said of what they hold
pub record IsBlockOfKind (kind : ℕ) (block : List ℕ) : Type 0 where
  pub is_block : IsBlock block
  pub sections : HasSequenceSections kind block
  pub sized : HasSizes (tables_in block)
  pub lengths : HasLengths (sequence_in block)

-- and the sections are as they were written, and hold some sequence
pub record IsSoundOfKind (kind : ℕ) (block : List ℕ) : Type 0 where
  pub sequence_block : IsBlockOfKind kind block
  pub verified : IsVerified block
  pub parts : AreParts (sequence_in block)

-- the block of a kind is that of the sequence xs, and its header has the number b besides
pub record HoldsNumbers (kind b : ℕ) (xs block : List ℕ) : Type 0 where
  pub sound : IsSoundOfKind kind block
  pub holds : Holds xs (sequence_in block)
  pub besides : slice_index block 9 ≡ b

-- the same of the kind of sequences, which has no number besides
abbrev pub IsSequenceBlock : List ℕ → Type 0
IsSequenceBlock = IsBlockOfKind 3

abbrev pub IsSoundBlock : List ℕ → Type 0
IsSoundBlock = IsSoundOfKind 3

abbrev pub IsBlockOf : List ℕ → List ℕ → Type 0
IsBlockOf = HoldsNumbers 3 0

-- numbers of a sequence, few enough, and a block as long as theirs
pub record CanHold (xs block : List ℕ) : Type 0 where
  pub short : length xs < 2 ^ 56
  pub rising : IsNonDecreasing xs
  pub room : length block ≡ end_of (sections_of xs)
