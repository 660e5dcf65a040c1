-- A block with one section more.
use Rattle.std.specs.Prelude.{◌≡◌, ℕ, ◌+◌, ◌<◌, List, [], ◌∷◌, ◌++◌, drop, length}
use Rattle.bitm_block.specs.Header.{count_in, head_in, section_in, sections_in, version_in, IsBlock, IsVerified}
use Rattle.bitm_block.specs.Layout.{end_of, head_of, words_of, AreShort}
use Rattle.bitm_block.specs.declared.layout.Section.{Section}

-- the sections of a block, and one more after them
abbrev pub extended_sections : List ℕ → Section → List Section
extended_sections block added = sections_in block ++ added ∷ []

-- the words are a block, and short enough with the section: it has at most 15 sections of its own
pub record CanExtend (block : List ℕ) (added : Section) : Type 0 where
  pub is_block : IsBlock block
  pub short : AreShort (extended_sections block added)

-- and its words are as many as its items take
pub record FitsWith (block : List ℕ) (added : Section) (words : List ℕ) : Type 0 where
  pub can : CanExtend block added
  pub long : length words ≡ words_of added

-- and there are as many words to write to as the new block takes
pub record HasSectionRoom (block : List ℕ) (added : Section) (words to : List ℕ) : Type 0 where
  pub fits : FitsWith block added words
  pub room : length to ≡ end_of (extended_sections block added)

-- the new words are a block of version 4, as it was written: it has the numbers and the sections of the old one, of
-- whatever version that is, which hold the same words, and one section after them, which holds these
pub record IsExtended (block : List ℕ) (added : Section) (words new : List ℕ) : Type 0 where
  pub is_block : IsBlock new
  pub verified : IsVerified new
  pub version : version_in new ≡ 4
  pub head_is : head_in new ≡ head_in block
  pub sections_are : sections_in new ≡ extended_sections block added
  pub kept : (i : ℕ) → i < count_in block → section_in new i ≡ section_in block i
  pub added_is : section_in new (count_in block) ≡ words

-- the words of all sections, and the zeros after each
abbrev pub body_in : List ℕ → List ℕ
body_in block = drop (head_of (count_in block)) block

-- the sections and then the words stand where a block of one section more has them
pub record StandsExtended (block words to : List ℕ) : Type 0 where
  pub front : List ℕ
  pub gap : List ℕ
  pub head : length front ≡ head_of (count_in block + 1)
  pub whole : to ≡ front ++ (body_in block ++ (words ++ gap))
