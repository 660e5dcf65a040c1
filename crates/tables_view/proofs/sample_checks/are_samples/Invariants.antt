use Rattle.std.proofs.Common.{◌≡◌, ◌≤◌, List, Bool, length}
use Rattle.bit_lists.specs.Count.{as_bit}
use Rattle.bitm_strategies.specs.Samples.{IsSummaryOf, sample_count_before}
use Rattle.tables_view.specs.Samples.{sample_number}
use Rattle.tables_view.specs.Sizes.{IsFilled}
use Rattle.tables_view.proofs.sample_checks.are_samples.Given as goal

-- the samples and starts of the parts so far are right
abbrev pub invariant-loop-part : goal.invariant-loop-part
invariant-loop-part g l = record {
  fits : l.count ≤ length l.samples;
  count : (b : List Bool) → IsSummaryOf b l.summary → l.count ≡ sample_count_before b (as_bit g.row.BIT) l.log2 l.part;
  samples : (b : List Bool) → IsSummaryOf b l.summary → IsFilled (sample_number b (as_bit g.row.BIT) l.log2) l.samples l.count;
  starts : (b : List Bool) → IsSummaryOf b l.summary → IsFilled (sample_count_before b (as_bit g.row.BIT) l.log2) l.starts l.part;
}
