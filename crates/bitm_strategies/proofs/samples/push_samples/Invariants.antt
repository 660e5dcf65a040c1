use Rattle.std.proofs.Common.{◌≡◌, ◌*◌, ◌^◌, ◌<◌, ◌≤◌, ◌++◌, List, Bool, map, length}
use Rattle.std.specs.List.{range_with_len}
use Rattle.bit_lists.specs.Count.{as_bit}
use Rattle.bitm_strategies.specs.Samples.{IsSummaryOf, part_of, sample}
use Rattle.bitm_tables.specs.Entry.{entries_from}
use Rattle.bitm_select.specs.Search.{items_to}
use Rattle.bitm_strategies.proofs.samples.push_samples.Given as goal

-- the samples so far, and an entry no later than the next one's
abbrev pub invariant-loop-interval : goal.invariant-loop-interval
invariant-loop-interval g l = record {
  inside : l.entry < entries_from (length l.summary.lower.now) l.part;
  at_most : (b : List Bool) → IsSummaryOf b l.summary → items_to g.row.BIT b l.part l.entry ≤ l.interval * 2 ^ l.log2;
  samples : (b : List Bool) → IsSummaryOf b l.summary
      → l.samples.items
      ≡ l.fn.samples.items
      ++ map (λ i. sample (part_of b l.part) (as_bit g.row.BIT) l.log2 (i * 2 ^ l.log2)) (range_with_len 0 l.interval);
}
