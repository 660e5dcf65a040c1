use Rattle.std.proofs.Common.{◌+◌, ◌<◌, ◌≤◌, slice_index}
use Rattle.bitm_select.proofs.search.record.last_at_most.Given as goal

-- the last of those before k that is no more than the rank
abbrev pub invariant-loop-k : goal.invariant-loop-k
invariant-loop-k l =
    record {
      order : l.last < l.k;
      at_most : slice_index l.counts l.last ≤ l.rank;
      next : l.last + 1 < l.k → l.rank < slice_index l.counts (l.last + 1);
    }
