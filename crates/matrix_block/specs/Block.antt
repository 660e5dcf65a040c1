-- A block that holds a wavelet matrix.
use Rattle.std.specs.Prelude.{◌≡◌, ℕ, ◌+◌, ◌-◌, ◌*◌, ◌^◌, ◌<◌, ◌≤◌, ◌==◌, ◌&&◌, nat_le, nat_lt, min, Bool, if◌then◌else◌, List, [], ◌∷◌, ◌++◌, length, slice_index, slice_range, All}
use Rattle.std.specs.Int.{div_ceil}
use Rattle.bitm_tables.specs.Quarters.{AreQuartersOf}
use Rattle.bitm_tables.specs.Tables.{HasSizes, Lists, bits_in}
use Rattle.bitm_block.specs.Header.{count_in, section_entry, section_in, IsBlock, IsOfKind, IsVerified}
use Rattle.bitm_block.specs.Layout.{aligned, end_of}
use Rattle.bitm_block.specs.declared.head.Head.{Head}
use Rattle.bitm_block.specs.declared.layout.Section.{Section}
use Rattle.bitm_selection.specs.Hints.{hints_room, Lead}
use Rattle.block_tables.specs.Hints.{hints_with}
use Rattle.tables_view.specs.Sizes.{lists_of}
use Rattle.levels_view.specs.Levels.{levels_of, levels_with, AreNumbers, HasLevels}
use Rattle.matrix_levels.specs.Matrix.{matrix_words, numbers_in, quarters_for, IsMatrix, LevelTables}

-- how many entries the upper and the lower table of n numbers of w bits have
abbrev pub upper_of_numbers : ℕ → ℕ → ℕ
upper_of_numbers n w = div_ceil (matrix_words n w) (2 ^ 26)

abbrev pub lower_of_numbers : ℕ → ℕ → ℕ
lower_of_numbers n w = div_ceil (matrix_words n w) 32

-- a number can have so many bits
abbrev pub IsWidth : ℕ → Type 0
IsWidth w = (1 ≤ w) × (w ≤ 64)

-- the numbers of the header of a matrix of n numbers of w bits
abbrev pub matrix_head : ℕ → ℕ → Head
matrix_head n w = record { kind = 6; len = n; width = w; ones_log2 = 0; zeros_log2 = 0; a = 0; b = 0; c = 0 }

-- how many numbers the quarters of n numbers of w bits have
abbrev pub quarters_of_numbers : ℕ → ℕ → ℕ
quarters_of_numbers n w = div_ceil (matrix_words n w) 8

-- how many words the hints of n numbers of w bits have
abbrev pub hints_of_numbers : ℕ → ℕ → ℕ
hints_of_numbers n w = hints_room (matrix_words n w)

-- the sections of a compact matrix of n numbers of w bits: words, upper and lower table, and for each level the 1 bits
-- before it and how many of its items have a 0 bit
abbrev pub matrix_sections : ℕ → ℕ → List Section
matrix_sections n w =
    record { role = 1; count = matrix_words n w } ∷ record { role = 2; count = upper_of_numbers n w }
    ∷ record { role = 3; count = lower_of_numbers n w } ∷ record { role = 11; count = w } ∷ record { role = 12; count = w } ∷ []

-- these, then quarters or none, and then hints or none
abbrev pub sections_with : ℕ → ℕ → Bool → Bool → List Section
sections_with n w quarters hints =
    matrix_sections n w
    ++ ((if quarters then record { role = 6; count = quarters_of_numbers n w } ∷ [] else [])
    ++ (if hints then record { role = 22; count = hints_of_numbers n w } ∷ [] else []))

-- where the first section begins: after a directory of at most six sections, or of seven
abbrev pub first_at : Bool → Bool → ℕ
first_at quarters hints = if quarters && hints then 48 else 40

-- where the sections after the first begin, and where they end, if the first begins at word i
abbrev pub upper_at : ℕ → ℕ → ℕ → ℕ
upper_at i n w = i + aligned (matrix_words n w)

abbrev pub lower_at : ℕ → ℕ → ℕ → ℕ
lower_at i n w = upper_at i n w + aligned (upper_of_numbers n w)

abbrev pub ones_at : ℕ → ℕ → ℕ → ℕ
ones_at i n w = lower_at i n w + aligned (lower_of_numbers n w)

abbrev pub zeros_at : ℕ → ℕ → ℕ → ℕ
zeros_at i n w = ones_at i n w + aligned w

abbrev pub end_at : ℕ → ℕ → ℕ → ℕ
end_at i n w = zeros_at i n w + aligned w

-- how many words quarters take, or none, and so where hints begin
abbrev pub quarters_room : ℕ → ℕ → Bool → ℕ
quarters_room n w quarters = if quarters then aligned (quarters_of_numbers n w) else 0

abbrev pub hints_at : ℕ → ℕ → ℕ → Bool → ℕ
hints_at i n w quarters = end_at i n w + quarters_room n w quarters

-- where the block ends, with quarters or without, and with hints or without
abbrev pub end_with : ℕ → ℕ → Bool → Bool → ℕ
end_with n w quarters hints =
    hints_at (first_at quarters hints) n w quarters + (if hints then aligned (hints_of_numbers n w) else 0)

-- the tables of levels, words with two tables, and the hints of the words, of which there may be none
pub record MatrixParts : Type 0 where
  pub levels : LevelTables
  pub lists : Lists
  pub hints : List ℕ

-- these levels, words and tables, without hints
abbrev pub parts_of : LevelTables → List ℕ → List ℕ → List ℕ → MatrixParts
parts_of levels words upper lower = record { levels = levels; lists = lists_of words upper lower; hints = [] }

-- the same parts with hints
abbrev pub with_hints : List ℕ → MatrixParts → MatrixParts
with_hints hints parts = record parts { hints = hints }

-- whether a block's sixth section is that of quarters
abbrev pub has_quarters : List ℕ → Bool
has_quarters block = nat_le 6 (count_in block) && (slice_index block 36 == 6)

-- which section is that of hints, if any is: the one after the quarters, or after the first five
abbrev pub hints_index : List ℕ → ℕ
hints_index block = if has_quarters block then 6 else 5

-- whether it is
abbrev pub has_hints : List ℕ → Bool
has_hints block = nat_lt (hints_index block) (count_in block) && ((section_entry block (hints_index block)).role == 22)

-- the quarters, none where there is no such section
abbrev pub quarters_in : List ℕ → List ℕ
quarters_in block = if has_quarters block then section_in block 5 else []

-- the hints, none where there is no such section, or it has another number of words than the hints of the block's words
abbrev pub hints_in : List ℕ → List ℕ
hints_in block = hints_with block (hints_index block) (hints_room (length (section_in block 0)))

-- the matrix whose parts are the first five sections, the quarters and the hints
abbrev pub matrix_in : List ℕ → MatrixParts
matrix_in block =
    with_hints (hints_in block)
    (parts_of
    (levels_with (slice_index block 3) (slice_index block 4) (section_in block 3) (section_in block 4) (quarters_in block))
    (section_in block 0) (section_in block 1) (section_in block 2))

-- no bits are known from a table of starts, and the levels are compact where there are no quarters
pub record IsPlain (levels : LevelTables) : Type 0 where
  pub known_none : levels.known ≡ 0
  pub starts_none : slice_index levels.starts 0 ≡ 0
  pub compact_is : levels.compact ≡ (length levels.quarters == 0)

-- the parts are as long as those of the numbers, and there are no quarters or as many numbers as these take, and no hints or
-- as many words: nothing else is said of what they hold
pub record HasLengths (parts : MatrixParts) : Type 0 where
  pub levels : HasLevels parts.levels
  pub words_len : length parts.lists.words ≡ matrix_words parts.levels.len parts.levels.width
  pub sized : HasSizes parts.lists
  pub quarters_len : length parts.levels.quarters ≡ quarters_for parts.levels.compact (length parts.lists.words)
  pub plain : IsPlain parts.levels
  pub hints_len : 0 < length parts.hints → length parts.hints ≡ hints_room (length parts.lists.words)

-- the block is of the kind of a matrix, and its first sections are the words, their two tables and the ones and zeros of
-- each level
abbrev pub HasMatrixSections : List ℕ → Type 0
HasMatrixSections block = IsOfKind 6 (1 ∷ 2 ∷ 3 ∷ 11 ∷ 12 ∷ []) block

-- header and directory are right, and the sections are as long as those of the numbers
pub record IsMatrixBlock (block : List ℕ) : Type 0 where
  pub is_block : IsBlock block
  pub sections : HasMatrixSections block
  pub lengths : HasLengths (matrix_in block)

-- the parts hold numbers, and the queries answer by these
abbrev pub HoldsMatrix : MatrixParts → Type 0
HoldsMatrix parts = IsMatrix parts.levels parts.lists

-- how many 1 bits the tables of n numbers' levels say that there are: those before the last level and its own, at most
-- 2^64 - 1
abbrev pub ones_by_counts : ℕ → List ℕ → List ℕ → ℕ
ones_by_counts n ones zeros =
    min (slice_index ones (length ones - 1) + (n - slice_index zeros (length zeros - 1))) (2 ^ 64 - 1)

-- there are no hints, or they are those of the words: a selection by hints answers by the numbers then
abbrev pub HasHints : MatrixParts → Type 0
HasHints parts = Lead (ones_by_counts parts.levels.len parts.levels.ones parts.levels.zeros) parts.hints parts.lists.words

-- the numbers that the parts hold
abbrev pub items_in : MatrixParts → List ℕ
items_in parts = numbers_in parts.levels parts.lists

-- numbers of w bits that fit into a block
pub record CanHold (xs : List ℕ) (w : ℕ) : Type 0 where
  pub numbers : AreNumbers (length xs) w
  pub fit : All (λ x. x < 2 ^ w) xs

-- the lengths of the scratch and of a block are those of n numbers of w bits, with quarters or without, and with hints or
-- without
pub record HasMatrixRoom (n w : ℕ) (quarters hints : Bool) (scratch block : ℕ) : Type 0 where
  pub numbers : AreNumbers n w
  pub block_len : block ≡ end_of (sections_with n w quarters hints)
  pub scratch_len : scratch ≡ 2 * n

-- words and tables that hold these numbers of w bits
pub record AreParts (numbers : List ℕ) (w : ℕ) (words upper lower ones zeros : List ℕ) : Type 0 where
  pub words_len : length words ≡ matrix_words (length numbers) w
  pub upper_len : length upper ≡ upper_of_numbers (length numbers) w
  pub lower_len : length lower ≡ lower_of_numbers (length numbers) w
  pub ones_len : length ones ≡ w
  pub zeros_len : length zeros ≡ w
  pub matrix : IsMatrix (levels_of (length numbers) w ones zeros) (lists_of words upper lower)
  pub items : numbers_in (levels_of (length numbers) w ones zeros) (lists_of words upper lower) ≡ numbers

-- the words with their tables that stand in a block of n numbers of w bits from word i on
abbrev pub lists_in : List ℕ → ℕ → ℕ → ℕ → Lists
lists_in block i n w =
    lists_of (slice_range block i (i + matrix_words n w))
    (slice_range block (upper_at i n w) (upper_at i n w + upper_of_numbers n w))
    (slice_range block (lower_at i n w) (lower_at i n w + lower_of_numbers n w))

-- the tables of their levels
abbrev pub ones_in : List ℕ → ℕ → ℕ → ℕ → List ℕ
ones_in block i n w = slice_range block (ones_at i n w) (ones_at i n w + w)

abbrev pub zeros_in : List ℕ → ℕ → ℕ → ℕ → List ℕ
zeros_in block i n w = slice_range block (zeros_at i n w) (zeros_at i n w + w)

-- the numbers stand in a block from word i on, where its sections are
abbrev pub StandsIn : List ℕ → ℕ → ℕ → List ℕ → Type 0
StandsIn numbers w i block =
    let n = length numbers in
    AreParts numbers w (slice_range block i (i + matrix_words n w))
    (slice_range block (upper_at i n w) (upper_at i n w + upper_of_numbers n w))
    (slice_range block (lower_at i n w) (lower_at i n w + lower_of_numbers n w)) (ones_in block i n w) (zeros_in block i n w)

-- the quarters of these words stand in a block after the five sections
abbrev pub HaveQuarters : ℕ → ℕ → ℕ → List ℕ → Type 0
HaveQuarters n w i block =
    AreQuartersOf (bits_in (lists_in block i n w))
    (slice_range block (end_at i n w) (end_at i n w + quarters_of_numbers n w))

-- the hints are those of the words, with room for all, where the words have the given number of 1 bits
pub record AreHintsWritten (ones : ℕ) (words hints : List ℕ) : Type 0 where
  pub room : length hints ≡ hints_room (length words)
  pub lead : Lead ones hints words

-- the hints of these words stand in a block after the quarters, if there are any
abbrev pub HaveHints : ℕ → ℕ → ℕ → Bool → List ℕ → Type 0
HaveHints n w i quarters block =
    AreHintsWritten (ones_by_counts n (ones_in block i n w) (zeros_in block i n w)) (slice_range block i (i + matrix_words n w))
    (slice_range block (hints_at i n w quarters) (hints_at i n w quarters + hints_of_numbers n w))

-- the block is as it was written, and holds a matrix, with the hints of its words or none
pub record IsSoundBlock (block : List ℕ) : Type 0 where
  pub matrix_block : IsMatrixBlock block
  pub verified : IsVerified block
  pub matrix : HoldsMatrix (matrix_in block)
  pub hints : HasHints (matrix_in block)

-- the block is that of these numbers of w bits, with quarters or without, and with hints or without
pub record IsBlockOf (numbers : List ℕ) (w : ℕ) (block : List ℕ) : Type 0 where
  pub sound : IsSoundBlock block
  pub width : slice_index block 4 ≡ w
  pub items : items_in (matrix_in block) ≡ numbers
