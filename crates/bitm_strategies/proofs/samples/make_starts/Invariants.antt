use Rattle.std.proofs.Common.{◌≡◌, ◌*◌, ◌^◌, ◌≤◌, List, Bool, map}
use Rattle.std.specs.List.{range_with_len}
use Rattle.bit_lists.specs.Count.{as_bit}
use Rattle.bitm_strategies.specs.Samples.{IsSummaryOf, sample_count_before}
use Rattle.bitm_strategies.proofs.samples.make_starts.Given as goal

-- how many samples there are before the parts so far, and in them
abbrev pub invariant-loop-part : goal.invariant-loop-part
invariant-loop-part g l = record {
  few : l.count ≤ l.part * 2 ^ 25;
  count : (b : List Bool) → IsSummaryOf b l.summary → l.count ≡ sample_count_before b (as_bit g.row.BIT) l.log2 l.part;
  starts : (b : List Bool) → IsSummaryOf b l.summary
      → l.starts.items ≡ map (sample_count_before b (as_bit g.row.BIT) l.log2) (range_with_len 0 l.part);
}
