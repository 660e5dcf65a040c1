-- The numbers that bits hold level by level.
use Rattle.std.specs.Prelude.{◌≡◌, ℕ, ◌+◌, ◌-◌, ◌*◌, ◌/◌, ◌^◌, ◌<◌, ◌≤◌, Bool, true, false, if◌then◌else◌, List, map, take, drop, length, slice_index, count_by, All, zero, suc}
use Rattle.std.specs.Int.{div_ceil}
use Rattle.std.specs.List.{range_with_len}
use Rattle.bit_lists.specs.Bits.{item}
use Rattle.bit_lists.specs.Count.{ones_before, zeros_before, zeros_of, count_of, Picks}
use Rattle.bitm_tables.specs.Quarters.{AreQuartersOf}
use Rattle.bitm_tables.specs.Reads.{ReadsAtMost}
use Rattle.bitm_tables.specs.Tables.{IsIndexed, Lists, bits_in}
use Rattle.bitm_tables.specs.declared.source.counts.ReadCounts.{ReadCounts}
use Rattle.matrix_levels.specs.Levels.{columns, has_digit, known_of, level, level_position}
use Rattle.matrix_levels.specs.Numbers.{PicksItem}

-- what the levels are seen as: `len` numbers of `width` digits; for each level how many ones stand before it among the
-- bits of all levels, and how many of its items have the digit 0; and for each number of `known` digits, where those
-- that begin with it start after so many levels; and, unless they are compact, for each record of these bits the ones
-- before it and its quarters
pub record LevelTables : Type 0 where
  pub len : ℕ
  pub width : ℕ
  pub ones : List ℕ
  pub zeros : List ℕ
  pub known : ℕ
  pub starts : List ℕ
  pub compact : Bool
  pub quarters : List ℕ

-- where the item at position p of a level with these digits stands at the next
abbrev pub next_position : List Bool → ℕ → ℕ
next_position c p = if item c p then zeros_of c + ones_before c p else zeros_before c p

-- the r lowest digits, of w, of the item at position p of level w - r, where each level has n bits
unfoldable pub low_part : List Bool → ℕ → ℕ → ℕ → ℕ → ℕ
low_part b w n zero p = 0
low_part b w n (suc r) p =
    let c = take n (drop ((w - suc r) * n) b) in
    (if item c p then 2 ^ r else 0) + low_part b w n r (next_position c p)

-- the n numbers of w digits
abbrev pub level_items : List Bool → ℕ → ℕ → List ℕ
level_items b w n = map (low_part b w n w) (range_with_len 0 n)

-- the digit by which level d is partitioned
abbrev pub digit_position : LevelTables → ℕ → ℕ
digit_position l d = l.width - 1 - d

-- the levels of the numbers, and the bits that hold the digits of each level
pub record IsMatrixOf (xs : List ℕ) (l : LevelTables) (b : List Bool) : Type 0 where
  pub count : l.len ≡ length xs
  pub some : 1 ≤ l.width
  pub most : l.width ≤ 64
  pub short : l.width * l.len < 2 ^ 63
  pub fit : All (λ x. x < 2 ^ l.width) xs
  pub room : l.width * l.len ≤ length b
  pub levels : take (l.width * l.len) b ≡ columns xs l.width l.width
  pub ones_len : length l.ones ≡ l.width
  pub zeros_len : length l.zeros ≡ l.width
  pub ones_are : (d : ℕ) → d < l.width → slice_index l.ones d ≡ ones_before b (d * l.len)
  pub zeros_are : (d : ℕ) → d < l.width
      → slice_index l.zeros d ≡ count_by (has_digit (digit_position l d) false) (level xs l.width d)
  pub known_most : l.known ≤ l.width
  pub starts_len : length l.starts ≡ 2 ^ l.known
  pub starts_are : (x : ℕ) → x < 2 ^ l.width
      → slice_index l.starts (x / 2 ^ (l.width - l.known)) ≡ level_position xs l.width x l.known 0
  pub quarters_are : l.compact ≡ false → AreQuartersOf b l.quarters
  pub no_quarters : l.compact ≡ true → length l.quarters ≡ 0

-- the bit v of rank r is that of an item of level d: x, with k equal to it before on that level
pub record IsLevelBitOf (xs : List ℕ) (l : LevelTables) (b : List Bool) (d x k : ℕ) (v : Bool) (r : ℕ) : Type 0 where
  pub some : r < count_of b v
  pub start : (p : ℕ) → Picks b v r p → d * l.len ≤ p
  pub picked : (p : ℕ) → Picks b v r p → PicksItem (level xs l.width d) x k (p - d * l.len)

-- the numbers that the words of a source hold
abbrev pub numbers_in : LevelTables → Lists → List ℕ
numbers_in l lists = level_items (bits_in lists) l.width l.len

-- these are levels of numbers that the words of a source hold, and its tables are those of its words
pub record IsMatrix (l : LevelTables) (lists : Lists) : Type 0 where
  pub indexed : IsIndexed lists
  pub numbers : IsMatrixOf (numbers_in l lists) l (bits_in lists)

-- level d of the numbers
abbrev pub level_in : LevelTables → Lists → ℕ → List ℕ
level_in l lists d = level (numbers_in l lists) l.width d

-- a call only read, what at most k ranks on these levels read: k upper entries, k lower ones and 8 k words, and with
-- quarters no lower entry and 2 k words
pub record OnlyRanks {S : Type 0} (l : LevelTables) (lists_of : S → Lists) (reads_of : S → ReadCounts) (old new : S) (k : ℕ)
    : Type 0 where
  pub at_most : ReadsAtMost (reads_of old) (reads_of new) k k (8 * k)
  pub quick : l.compact ≡ false → ReadsAtMost (reads_of old) (reads_of new) k 0 (2 * k)
  pub same : lists_of new ≡ lists_of old

-- a call only read, what at most r ranks on these levels read, and k selections that each read no more than `each`
pub record OnlyRanksAndSelects {S : Type 0} (l : LevelTables) (lists_of : S → Lists) (reads_of : S → ReadCounts) (old new : S) (r : ℕ) (each : ReadCounts) (k : ℕ)
    : Type 0 where
  pub at_most : ReadsAtMost (reads_of old) (reads_of new) (r + k * each.upper) (r + k * each.lower) (8 * r + k * each.words)
  pub quick : l.compact ≡ false
      → ReadsAtMost (reads_of old) (reads_of new) (r + k * each.upper) (k * each.lower) (2 * r + k * each.words)
  pub same : lists_of new ≡ lists_of old

-- as many words as n numbers of w digits take
abbrev pub matrix_words : ℕ → ℕ → ℕ
matrix_words n w = div_ceil (w * n) 64

-- the number of quarters' numbers for the given number of words: ceil(words / 8), and none in a compact matrix
abbrev pub quarters_for : Bool → ℕ → ℕ
quarters_for compact words = if compact then 0 else div_ceil words 8

-- as many words as the numbers take, and as many known digits as their starts are to have
pub record IsTight (l : LevelTables) (ws : List ℕ) : Type 0 where
  pub words : length ws ≡ matrix_words l.len l.width
  pub known : l.known ≡ known_of l.len l.width
