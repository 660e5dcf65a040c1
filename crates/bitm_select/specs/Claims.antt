-- What tables claim, whatever they hold: the numbers that a search reads, and when they claim that there is no such
-- bit.
use Rattle.std.specs.Prelude.{◌≡◌, ℕ, ◌+◌, ◌-◌, ◌*◌, ◌^◌, ◌%◌, ◌<◌, ◌≤◌, Bool, true, false, length, slice_index}
use Rattle.bit_lists.specs.Count.{count_before, count_of}
use Rattle.bitm_tables.specs.Entry.{field_0, greatest_entry, record_field}
pub use Rattle.bitm_tables.specs.Entry.{less}
use Rattle.bitm_tables.specs.Tables.{Lists, bits_in}
use Rattle.bitm_tables.specs.declared.answer.Answer.{Answer}
use Rattle.bitm_tables.specs.declared.answer.Answer.TheVariants.{Found, Absent, Wrong}

-- how many bits v the upper table claims before an upper block
abbrev pub claimed_part : Bool → Lists → ℕ → ℕ
claimed_part true lists part = slice_index lists.upper part
claimed_part false lists part = less (part * 2 ^ 32) (slice_index lists.upper part)

-- the lower entry of the bits v by the lower table: for 0 bits, the greatest value of each field less the field
abbrev pub claimed_entry : Bool → Lists → ℕ → ℕ
claimed_entry true lists at = slice_index lists.lower at
claimed_entry false lists at = less (greatest_entry at) (slice_index lists.lower at)

-- rest is what the upper table claims to be left of a rank in an upper block, and it is at most the rank
pub record IsLeftOf (v : Bool) (lists : Lists) (rank part rest : ℕ) : Type 0 where
  pub fits : claimed_part v lists part < 2 ^ 64
  pub is : rest ≡ less rank (claimed_part v lists part)
  pub within : rest ≤ rank

-- how many bits v an entry that packs e claims from the start of its upper block to its basic block k
abbrev pub claimed_to : ℕ → ℕ → ℕ
claimed_to e k = field_0 e + record_field e k

-- how many bits v there are from word k on
abbrev pub count_from_word : Lists → Bool → ℕ → ℕ
count_from_word lists v k = count_of (bits_in lists) v - count_before (bits_in lists) v (64 * k)

-- an entry that packs e claims at most r bits v to the end: those before one of its basic blocks, after which there is
-- no word, and those of the words from there on
pub record EntryClaimsNone (v : Bool) (lists : Lists) (at e r : ℕ) : Type 0 where
  pub k : ℕ
  pub inside : k < 4
  pub last : length lists.words ≤ 32 * at + 8 * k + 8
  pub count : claimed_to e k + count_from_word lists v (32 * at + 8 * k) ≤ r

-- tables and words claim at most r bits v in all, as numbers of 64 bits: before the last upper block, in it before a
-- basic block of its last entry, after which there is no word, and in the words from there on
pub record ClaimsNone (v : Bool) (lists : Lists) (r : ℕ) : Type 0 where
  pub k : ℕ
  pub inside : k < 4
  pub last : length lists.words ≤ 32 * (length lists.lower - 1) + 8 * k + 8
  pub count : (claimed_part v lists (length lists.upper - 1) + claimed_to (claimed_entry v lists (length lists.lower - 1)) k) % 2 ^ 64
      + count_from_word lists v (32 * (length lists.lower - 1) + 8 * k) ≤ r

-- this answer, with Wrong in place of Absent
abbrev pub wrong_for_absent : Answer ℕ → Answer ℕ
wrong_for_absent (Found p) = Found p
wrong_for_absent Absent = Wrong
wrong_for_absent Wrong = Wrong
