-- The samples of a bit vector, where selection from them starts, and what it reads.
use Rattle.std.specs.Prelude.{◌≡◌, ℕ, ◌+◌, ◌-◌, ◌*◌, ◌/◌, ◌%◌, ◌^◌, ◌<◌, ◌≤◌, Bool, List, map, flat_map, sum_by, length, take, drop, min, slice_index_or, Option, MatchOption, if◌then◌else◌, nat_lt}
use Rattle.std.specs.Int.{div_ceil}
use Rattle.std.specs.List.{range_with_len}
use Rattle.bit_lists.specs.Bits.{bits_of, digit, digit_count, IsShort}
use Rattle.bit_lists.specs.Count.{ones_of, ones_before, count_before, count_of, as_bit, bit_positions}
use Rattle.bitm_tables.specs.Reads.{ReadsAtMost}
use Rattle.bitm_select.specs.Search.{sought_in, IsLastPart}
use Rattle.bitm_tables.specs.Tables.{AreTablesOf, Lists}
use Rattle.bitm_tables.specs.declared.source.counts.ReadCounts.{ReadCounts}
use Rattle.bitm_strategies.specs.declared.sampled.PartBegin.{PartBegin}
use Rattle.bitm_strategies.specs.declared.samples.Summary.{Summary}

-- ---- parts

-- the number of upper blocks of the list, of which the last may be partial
abbrev pub parts : List Bool → ℕ
parts b = div_ceil (length b) (2 ^ 32)

-- the bits of part k
unfoldable pub part_of : List Bool → ℕ → List Bool
part_of b k = take (2 ^ 32) (drop (k * 2 ^ 32) b)

-- the rank inside part k
abbrev pub rank_in : List Bool → Bool → ℕ → ℕ → ℕ
rank_in b v rank k = rank - count_before b v (k * 2 ^ 32)

-- the part of position p
abbrev pub part_at : ℕ → ℕ
part_at p = p / 2 ^ 32

-- the entry of position p, counted from the start of its part
abbrev pub entry_at : ℕ → ℕ
entry_at p = p % 2 ^ 32 / 2048

-- ---- samples of one part c

-- the position of the bit v with rank t, or the length where there is none
unfoldable pub position : List Bool → Bool → ℕ → ℕ
position c v t = slice_index_or (bit_positions v 0 c) t (length c)

-- the entry of 2048 bits that has item number t
abbrev pub entry_of : List Bool → Bool → ℕ → ℕ
entry_of c v t = position c v t / 2048

-- the distance in entries from item number t to item number q, kept as at most 2047, and 0 where there is no item q
abbrev pub distance : List Bool → Bool → ℕ → ℕ → ℕ
distance c v t q = if nat_lt q (count_of c v) then min 2047 (entry_of c v q - entry_of c v t) else 0

-- the sample of the interval that begins at item t: the entry, and above it the distance to the item half an interval
-- later
abbrev pub sample : List Bool → Bool → ℕ → ℕ → ℕ
sample c v d t = entry_of c v t + distance c v t (t + 2 ^ (d - 1)) * 2 ^ 21

-- the number of intervals of 2^d items, of which the last may be partial
abbrev pub intervals : List Bool → Bool → ℕ → ℕ
intervals c v d = div_ceil (count_of c v) (2 ^ d)

-- one sample for each interval
abbrev pub part_samples : List Bool → Bool → ℕ → List ℕ
part_samples c v d = map (λ i. sample c v d (i * 2 ^ d)) (range_with_len 0 (intervals c v d))

-- the first item of the interval of item r
abbrev pub first_item : ℕ → ℕ → ℕ
first_item d r = r - r % 2 ^ d

-- where selection of rank r inside the part begins: at the entry of the first item of r's interval, and in the
-- interval's second half as many entries later as its sample keeps
abbrev pub walk_start : List Bool → Bool → ℕ → ℕ → ℕ
walk_start c v d r =
    entry_of c v (first_item d r)
    + (if digit r (d - 1) then distance c v (first_item d r) (first_item (d - 1) r) else 0)

-- ---- samples of all parts

-- the samples of the first k parts
abbrev pub samples_of_parts : List Bool → Bool → ℕ → ℕ → List ℕ
samples_of_parts b v d k = flat_map (λ p. part_samples (part_of b p) v d) (range_with_len 0 k)

-- how many samples the first k parts have
abbrev pub sample_count_before : List Bool → Bool → ℕ → ℕ → ℕ
sample_count_before b v d k = sum_by (λ p. intervals (part_of b p) v d) (range_with_len 0 k)

-- the samples, part after part
abbrev pub samples_of : List Bool → Bool → ℕ → List ℕ
samples_of b v d = samples_of_parts b v d (parts b)

-- how many there are
abbrev pub sample_count_of : List Bool → Bool → ℕ → ℕ
sample_count_of b v d = sample_count_before b v d (parts b)

-- how many there are before each part
abbrev pub sample_starts_of : List Bool → Bool → ℕ → List ℕ
sample_starts_of b v d = map (sample_count_before b v d) (range_with_len 0 (parts b))

-- the number of samples of the bits v at logarithm d, and a bound on it
pub record IsSampleCount (b : List Bool) (v : Bool) (d count : ℕ) : Type 0 where
  pub total : count ≡ sample_count_of b v d
  pub bound : (m : ℕ) → count_of b v * 2 ^ (m + 1) ≤ 3 * length b * 2 ^ d → count * 2 ^ (m + 1) ≤ 3 * length b + parts b * 2 ^ (m + 1)

-- ---- what samples are made of

-- the tables of the bits b, and how many ones and bits there are
pub record Summarizes (b : List Bool) (upper lower : List ℕ) (total len : ℕ) : Type 0 where
  pub tables : AreTablesOf b upper lower
  pub ones_are : total ≡ ones_of b
  pub bits_are : len ≡ length b

-- the tables and numbers are those of the bits b
abbrev pub IsSummaryOf : List Bool → Summary → Type 0
IsSummaryOf b summary = Summarizes b summary.upper.now summary.lower.now summary.total summary.len

-- the tables have the lengths of those of the given number of bits, and may hold anything
pub record IsSized (summary : Summary) : Type 0 where
  pub upper_len : length summary.upper.now ≡ div_ceil summary.len (2 ^ 32)
  pub lower_len : length summary.lower.now ≡ div_ceil summary.len 2048

-- what a value that selects by samples shows: its density, the samples, and how many there are before each part
pub record Sampled (S : Type 0) : Type 0 where
  pub density : S
  pub samples : List ℕ
  pub starts : List ℕ

-- the density is the one chosen for the items v of the words, and the samples and starts are the words' own at it
pub record Supported {S : Type 0} (log : S → ℕ) (chosen : ℕ → ℕ → S) (v : Bool) (words : List ℕ) (kept : Sampled S) : Type 0 where
  pub short : IsShort words
  pub density_is : kept.density ≡ chosen (count_of (bits_of words) v) (length (bits_of words))
  pub samples_are : kept.samples ≡ samples_of (bits_of words) v (log kept.density)
  pub starts_are : kept.starts ≡ sample_starts_of (bits_of words) v (log kept.density)

-- ---- reads of selection by samples

-- a walk from the start for rank r to entry e of the upper block c, after the given number of reads of upper entries
pub record WalkedTo (c : List Bool) (v : Bool) (d r e uppers : ℕ) (early late : ReadCounts) : Type 0 where
  pub order : walk_start c v d r ≤ e
  pub reads : ReadsAtMost early late uppers (e - walk_start c v d r + 2) 8

-- nothing was found from rank r of the last part: a walk to the last entry where the interval of r has items, otherwise
-- only upper entries were read
pub record WalkedOut (c : List Bool) (v : Bool) (d r uppers : ℕ) (early late : ReadCounts) : Type 0 where
  pub walked : first_item d r < count_of c v → WalkedTo c v d r (div_ceil (length c) 2048 - 1) uppers early late
  pub nothing : count_of c v ≤ first_item d r → ReadsAtMost early late uppers 0 0

-- the reads of a selection by rank that found a position, or none
abbrev pub SampledReads : List Bool → Bool → ℕ → ℕ → Option ℕ → ReadCounts → ReadCounts → Type 0
SampledReads b v d rank result early late =
    let uppers = digit_count (parts b) + 1 in
    let last = parts b - 1 in
    MatchOption result
    (WalkedOut (part_of b last) v d (rank_in b v rank last) uppers early late)
    (λ p. WalkedTo (part_of b (part_at p)) v d (rank_in b v rank (part_at p)) (entry_at p) uppers early late)

-- the start of the samples of an upper block in xs, one for 2^d items, and the number of items before the upper block,
-- which is the last with at most r items before it
pub record IsSampledPart (bit : ℕ) (lists : Lists) (xs : List ℕ) (d : ℕ) (begin : PartBegin) (r : ℕ) : Type 0 where
  pub low : 7 ≤ d
  pub high : d ≤ 31
  pub samples : xs ≡ samples_of (bits_of lists.words) (as_bit bit) d
  pub part : IsLastPart (sought_in bit lists.words) (length lists.upper) r begin.part
  pub start_is : begin.samples ≡ sample_count_before (bits_of lists.words) (as_bit bit) d begin.part
  pub before_is : begin.items ≡ ones_before (sought_in bit lists.words) (begin.part * 2 ^ 32)
