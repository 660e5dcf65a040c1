-- Borrowed samples.
use Rattle.std.specs.Prelude.{◌≡◌, ℕ, ◌-◌, ◌*◌, ◌^◌, ◌<◌, ◌≤◌, ◌==◌, Bool, if◌then◌else◌, List, [], length, slice_index}
use Rattle.std.specs.Int.{div_ceil}
use Rattle.bit_lists.specs.Count.{count_before}
use Rattle.bitm_strategies.specs.Density.{clamped_log}
use Rattle.bitm_strategies.specs.Samples.{samples_of, sample_starts_of}
use Rattle.bitm_tables.specs.Tables.{Lists}
use Rattle.tables_view.specs.declared.samples.SamplesView.{SamplesView}

-- samples of one kind, how many there are before each upper block, and their logarithm, which is 0 where there are none
pub record SampleLists : Type 0 where
  pub samples : List ℕ
  pub starts : List ℕ
  pub log2 : ℕ

-- the borrowed samples
abbrev pub sampled : SamplesView → SampleLists
sampled borrowed = record {
  samples = borrowed.samples.now;
  starts = borrowed.starts.now;
  log2 = (if length borrowed.samples.now == 0 then 0 else borrowed.log2);
}

-- no samples
abbrev pub not_sampled : SampleLists
not_sampled = record { samples = []; starts = []; log2 = 0 }

-- the two lists are the samples of the bits v of b at logarithm d, and how many there are before each upper block
pub record AreSamples (b : List Bool) (v : Bool) (d : ℕ) (samples starts : List ℕ) : Type 0 where
  pub samples_are : samples ≡ samples_of b v d
  pub starts_are : starts ≡ sample_starts_of b v d

-- the borrowed lists are the samples of the bits v of b
abbrev pub AreSamplesOf : List Bool → Bool → SamplesView → Type 0
AreSamplesOf b v borrowed = AreSamples b v (clamped_log borrowed.log2) borrowed.samples.now borrowed.starts.now

-- sample number j of the bits v of b, over all upper blocks
abbrev pub sample_number : List Bool → Bool → ℕ → ℕ → ℕ
sample_number b v d j = slice_index (samples_of b v d) j

-- how many samples are enough for the given number of words
abbrev pub enough_samples : ℕ → ℕ → ℕ
enough_samples words log = div_ceil words (2 ^ (clamped_log log - 6))

-- there is room for the samples of any words of this number, and for one start for each upper block
pub record HasSampleRoom (lists : Lists) (log : ℕ) (samples starts : List ℕ) : Type 0 where
  pub samples_len : enough_samples (length lists.words) log ≤ length samples
  pub starts_len : length starts ≡ length lists.upper

-- the bit v with rank r of the upper block c is in an entry from low on and before end, of the given number of entries;
-- or there is no such bit
pub record IsBounded (c : List Bool) (v : Bool) (r entries low end : ℕ) : Type 0 where
  pub at_most : count_before c v (2048 * low) ≤ r
  pub above : end < entries → r < count_before c v (2048 * end)
