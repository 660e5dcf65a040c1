-- Where the items with the same high bits start and end, as it is found in the words of the high bits: where these are
-- right, and whatever they hold.
use Rattle.std.specs.Prelude.{◌≡◌, ⊤, ℕ, ◌+◌, Bool, List, length}
use Rattle.bit_lists.specs.Bits.{digit_count}
use Rattle.bitm_tables.specs.Tables.{HasTables, Lists}
use Rattle.bitm_tables.specs.Entry.{less}
use Rattle.elias_fano.specs.Buckets.{BeginsAt, CountsBelow}
use Rattle.elias_fano.specs.Parts.{width_of, IsUpper}
use Rattle.elias_fano.specs.Claims.{ClaimsBelow, ClaimsTo}
use Rattle.bitm_tables.specs.declared.source.counts.ReadCounts.{ReadCounts}
use Rattle.bitm_tables.specs.Answers.{Right}
use Rattle.bitm_tables.specs.declared.answer.Answer.{Answer}
use Rattle.bitm_tables.specs.declared.answer.Answer.TheVariants.{Found, Absent, Wrong}

-- the words of the high bits of n items, above l low bits, with their tables
pub record HoldsHigh (xs : List ℕ) (n l : ℕ) (lists : Lists) : Type 0 where
  pub upper : IsUpper xs l lists.words
  pub tables : HasTables lists
  pub count : n ≡ length xs
  pub width : l ≡ width_of xs

-- the first position with h 0 bits before it; Absent only where each item has high bits of less than h
abbrev pub IsBegin : List ℕ → ℕ → List Bool → ℕ → Answer ℕ → Type 0
IsBegin xs l b h = Right (λ p. BeginsAt b h p) (CountsBelow xs l h (length xs))

-- what words and tables claim by it, whatever they hold: how many of n numbers have high bits of less than h; for
-- Absent, that all have, so that all have high bits of at most h
abbrev pub ClaimsBegin : Lists → ℕ → ℕ → Answer ℕ → Type 0
ClaimsBegin lists n h (Found p) = ClaimsBelow lists n h (less p h)
ClaimsBegin lists n h Absent = ClaimsBelow lists n h n × ClaimsTo lists n h n
ClaimsBegin lists n h Wrong = ⊤

-- what a search in the tables reads at most, with so many lower entries and words
abbrev pub searched : ℕ → ℕ → Lists → ReadCounts
searched lowers words lists = record { words = words; upper = digit_count (length lists.upper) + 1; lower = lowers }
