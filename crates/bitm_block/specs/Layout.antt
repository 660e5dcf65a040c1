-- Where the sections of a block stand, in words.
use Rattle.std.specs.Prelude.{ℕ, ◌+◌, ◌*◌, ◌/◌, ◌^◌, ◌<◌, ◌≤◌, ◌==◌, ◌||◌, nat_le, if◌then◌else◌, All, List, get_or, length, slice_range, sum_by, take}
use Rattle.std.specs.Int.{div_ceil}
use Rattle.bitm_block.specs.declared.layout.Section.{Section}

-- the first multiple of 8 from n on
abbrev pub aligned : ℕ → ℕ
aligned n = (n + 7) / 8 * 8

-- the words of the given number of items: two samples (roles 7 and 8) in a word, eight seeds (15) or bytes of a
-- caller's own section (from 2^16 on), and one item of every other role
abbrev pub item_words : ℕ → ℕ → ℕ
item_words role count =
    if role == 7 || role == 8 then div_ceil count 2
    else (if role == 15 || nat_le (2 ^ 16) role then div_ceil count 8 else count)

-- the words of a section
abbrev pub words_of : Section → ℕ
words_of section = item_words section.role section.count

-- the words of a section with those up to the next one, which begins at a multiple of 8
abbrev pub room_of : Section → ℕ
room_of section = aligned (words_of section)

-- the words of the header and of a directory of n sections
abbrev pub head_of : ℕ → ℕ
head_of n = aligned (16 + 4 * n)

-- where section i begins: after header and directory, or after the one before it
abbrev pub begin_of : List Section → ℕ → ℕ
begin_of sections i = head_of (length sections) + sum_by room_of (take i sections)

-- no section
abbrev pub no_section : Section
no_section = record { role = 0; count = 0 }

-- the words that stand where section i is
abbrev pub part_in : List Section → List ℕ → ℕ → List ℕ
part_in sections words i = slice_range words (begin_of sections i) (begin_of sections i + words_of (get_or sections i no_section))

-- where the block ends
abbrev pub end_of : List Section → ℕ
end_of sections = head_of (length sections) + sum_by room_of sections

-- there are at most 16 sections, none of them with 2^58 items, and fewer than 2^60 words in all
pub record AreShort (sections : List Section) : Type 0 where
  pub few : length sections ≤ 16
  pub counts : All (λ s. s.count < 2 ^ 58) sections
  pub total : end_of sections < 2 ^ 60
