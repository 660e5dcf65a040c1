-- The counts of lines and the table beside them.
use Rattle.std.specs.Prelude.{◌≡◌, ℕ, ◌+◌, ◌-◌, ◌*◌, ◌/◌, ◌%◌, ◌^◌, ◌<◌, ◌≤◌, List, length, slice_index, take}
use Rattle.bit_lists.specs.Bits.{IsShort}
use Rattle.digits.specs.Digits.{digits_of, digits_before}

-- the words of lines, a table, and how many digits of the lines count
pub record DigitLists : Type 0 where
  pub lines : List ℕ
  pub table : List ℕ
  pub len : ℕ

-- these words, table and number of digits
abbrev pub digit_lists : List ℕ → List ℕ → ℕ → DigitLists
digit_lists lines table len = record { lines = lines; table = table; len = len }

-- the digits that count: those of the lines without what fills the last line up
abbrev pub digits_in : DigitLists → List ℕ
digits_in lists = take lists.len (digits_of lists.lines)

-- the count of digit d in a word of four counts
abbrev pub count_field : ℕ → ℕ → ℕ
count_field w d = w / 2 ^ (16 * d) % 2 ^ 16

-- how many of the digits from position i on and before position j are d
abbrev pub digits_between : ℕ → List ℕ → ℕ → ℕ → ℕ
digits_between d digits i j = digits_before d digits j - digits_before d digits i

-- how many of the digits from position i on and before position j are 0, 1, 2 and 3: 16 bits for each, lowest first
unfoldable pub counts_between : List ℕ → ℕ → ℕ → ℕ
counts_between digits i j =
    digits_between 0 digits i j + digits_between 1 digits i j * 2 ^ 16 + digits_between 2 digits i j * 2 ^ 32
    + digits_between 3 digits i j * 2 ^ 48

-- fewer than 2^58 words of whole lines, of which the last begins at or before position len, and four numbers for each
-- 256 lines; they may hold anything
pub record HasDigitSizes (lists : DigitLists) : Type 0 where
  pub short : IsShort lists.lines
  pub lines_len : length lists.lines ≡ 8 * (lists.len / 224 + 1)
  pub table_len : length lists.table ≡ 4 * (lists.len / 224 / 256 + 1)

-- the four numbers of entry k of the table count the digits before line 256 k, and the first word of a line counts the
-- digits from the first line of its entry to its own position 128
pub record HasDigitTables (lists : DigitLists) : Type 0 where
  pub entries : (k d : ℕ) → d < 4 → 4 * k + 4 ≤ length lists.table
      → slice_index lists.table (4 * k + d) ≡ digits_before d (digits_of lists.lines) (224 * (256 * k))
  pub counts : (k : ℕ) → 8 * k + 8 ≤ length lists.lines
      → slice_index lists.lines (8 * k)
      ≡ counts_between (digits_of lists.lines) (224 * (256 * (k / 256))) (224 * k + 128)

-- n is the number of an entry of the table for digit d: 0 in the first entry; in the next ones the number of the entry
-- before and the count of the digit in its lines, which w has
pub record FollowsEntry (table : List ℕ) (entry w d n : ℕ) : Type 0 where
  pub first : entry ≡ 0 → n ≡ 0
  pub next : 0 < entry → n ≡ (slice_index table (4 * (entry - 1) + d) + count_field w d) % 2 ^ 64
