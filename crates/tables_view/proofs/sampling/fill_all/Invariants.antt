use Rattle.std.proofs.Common.{◌≡◌, ℕ, ◌*◌, ◌^◌, ◌≤◌, List, Bool, length, slice_index}
use Rattle.bit_lists.specs.Count.{as_bit}
use Rattle.bitm_strategies.specs.Samples.{IsSummaryOf, sample_count_before}
use Rattle.tables_view.specs.Samples.{sample_number}
use Rattle.tables_view.specs.Sizes.{IsFilled}
use Rattle.tables_view.proofs.sampling.fill_all.Given as goal

-- the samples of the parts so far, and how many there are
abbrev pub invariant-loop-part : goal.invariant-loop-part
invariant-loop-part g l = record {
  len : length l.samples ≡ length l.fn.samples;
  fits : l.count ≤ length l.fn.samples;
  before : l.count * 2 ^ l.log2 ≤ l.part * 2 ^ 32;
  count : (b : List Bool) → IsSummaryOf b l.summary → l.count ≡ sample_count_before b (as_bit g.row.BIT) l.log2 l.part;
  samples : (b : List Bool) → IsSummaryOf b l.summary → IsFilled (sample_number b (as_bit g.row.BIT) l.log2) l.samples l.count;
  starts : (b : List Bool) → IsSummaryOf b l.summary → IsFilled (sample_count_before b (as_bit g.row.BIT) l.log2) l.starts l.part;
  kept : (j : ℕ) → l.count ≤ j → slice_index l.samples j ≡ slice_index l.fn.samples j;
}
