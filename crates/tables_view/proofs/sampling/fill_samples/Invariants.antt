use Rattle.std.proofs.Common.{◌≡◌, ℕ, ◌+◌, ◌*◌, ◌^◌, ◌<◌, ◌≤◌, List, Bool, length, slice_index}
use Rattle.bit_lists.specs.Count.{as_bit}
use Rattle.bitm_strategies.specs.Samples.{IsSummaryOf, sample_count_before}
use Rattle.bitm_tables.specs.Entry.{entries_from}
use Rattle.bitm_select.specs.Search.{items_to}
use Rattle.tables_view.specs.Samples.{sample_number}
use Rattle.tables_view.specs.Sizes.{IsFilled}
use Rattle.tables_view.proofs.sampling.fill_samples.Given as goal

-- the samples so far, and an entry no later than the next one's
abbrev pub invariant-loop-interval : goal.invariant-loop-interval
invariant-loop-interval g l = record {
  inside : l.entry < entries_from (length l.summary.lower.now) l.part;
  at_most : (b : List Bool) → IsSummaryOf b l.summary → items_to g.row.BIT b l.part l.entry ≤ l.interval * 2 ^ l.log2;
  samples : (b : List Bool) → IsSummaryOf b l.summary → l.first ≡ sample_count_before b (as_bit g.row.BIT) l.log2 l.part
      → IsFilled (sample_number b (as_bit g.row.BIT) l.log2) l.fn.samples l.first
      → IsFilled (sample_number b (as_bit g.row.BIT) l.log2) l.samples (l.first + l.interval);
  kept : (j : ℕ) → l.first + l.interval ≤ j → slice_index l.samples j ≡ slice_index l.fn.samples j;
}
