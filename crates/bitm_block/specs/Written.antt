-- What is written for a header, sections and their words.
use Rattle.std.specs.Prelude.{◌≡◌, ℕ, ◌+◌, ◌-◌, ◌*◌, ◌<◌, List, [], ◌∷◌, ◌++◌, drop, length, replicate, slice_range, take}
use Rattle.bitm_block.specs.Checksum.{checksum_of}
use Rattle.bitm_block.specs.Header.{begin_in, finish_in, head_in, section_in, sections_in, version_in, IsBlock, IsVerified}
use Rattle.bitm_block.specs.Layout.{end_of, head_of, room_of, words_of}
use Rattle.bitm_block.specs.declared.head.Head.{Head}
use Rattle.bitm_block.specs.declared.layout.Section.{Section}

-- the words of one section, with zeros up to the next one
abbrev pub filled : Section → List ℕ → List ℕ
filled section words = take (words_of section) words ++ replicate (room_of section - words_of section) 0

-- the words of sections, which stand one after another in `words`, each with zeros up to the next one
unfoldable pub body_of : List Section → List ℕ → List ℕ
body_of [] words = []
body_of (section ∷ sections) words = filled section words ++ body_of sections (drop (room_of section) words)

-- the entry of a section that begins at word `at` of its block
abbrev pub directory_entry : Section → ℕ → List ℕ → List ℕ
directory_entry section at words = section.role ∷ 8 * at ∷ section.count ∷ checksum_of words ∷ []

-- the entries of sections, which stand one after another in `words`; the first begins at word `at` of their block
unfoldable pub entries_of : ℕ → List Section → List ℕ → List ℕ
entries_of at [] words = []
entries_of at (section ∷ sections) words =
    directory_entry section at (take (words_of section) words) ++ entries_of (at + room_of section) sections (drop (room_of section) words)

-- the directory: the entries, and zeros up to the first section
abbrev pub directory_of : List Section → List ℕ → List ℕ
directory_of sections words =
    entries_of (head_of (length sections)) sections words
    ++ replicate (head_of (length sections) - 16 - 4 * length sections) 0

-- the header without its checksum: of n sections, a block of the given number of words, a directory of that checksum
abbrev pub fields_of : Head → ℕ → ℕ → ℕ → List ℕ
fields_of head n words sum =
    0x0462_6174_6d74_6962 ∷ head.kind ∷ 8 * words ∷ head.len ∷ head.width ∷ head.ones_log2 ∷ head.zeros_log2 ∷ 0
    ∷ head.a ∷ head.b ∷ head.c ∷ n ∷ 0 ∷ 0 ∷ sum ∷ []

-- the header
abbrev pub header_of : Head → ℕ → ℕ → ℕ → List ℕ
header_of head n words sum = fields_of head n words sum ++ checksum_of (fields_of head n words sum) ∷ []

-- the block of these numbers and sections, whose words stand one after another in `words`
abbrev pub block_of : Head → List Section → List ℕ → List ℕ
block_of head sections words =
    header_of head (length sections) (end_of sections) (checksum_of (directory_of sections words))
    ++ (directory_of sections words ++ body_of sections words)

-- the new words are a block of version 4 with these numbers and sections, of which each has the words that stood in its
-- position
pub record IsSealed (head : Head) (sections : List Section) (old new : List ℕ) : Type 0 where
  pub is_block : IsBlock new
  pub verified : IsVerified new
  pub version : version_in new ≡ 4
  pub head_is : head_in new ≡ head
  pub sections_are : sections_in new ≡ sections
  pub kept : (i : ℕ) → i < length sections → section_in new i ≡ slice_range old (begin_in new i) (finish_in new i)
