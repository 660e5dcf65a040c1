use Rattle.std.proofs.Common.{◌≡◌, ◌+◌, ◌-◌, ◌<◌, ◌≤◌}
use Rattle.bit_lists.specs.Bits.{digit_count}
use Rattle.elias_fano.proofs.lemmas.SplitLemmas.{Parting}
use Rattle.elias_fano.specs.Buckets.{LowsRise}
use Rattle.elias_fano.specs.Low.{fragment}
use Rattle.elias_fano.proofs.searching.split_low.Given as goal

-- where the search has come, what is on both sides where low digits do not fall, and what was read
abbrev pub invariant-loop-left : goal.invariant-loop-left
invariant-loop-left l = record {
  begin : l.first ≤ l.from;
  bound : l.from + l.left ≤ l.end;
  less : l.first < l.from → fragment l.initial.low (l.from - 1) < l.rest;
  at_least : l.from + l.left < l.end → l.rest ≤ fragment l.initial.low (l.from + l.left);
  parts : LowsRise l.initial.low l.first l.end → Parting (fragment l.initial.low) l.first l.end l.rest l.from l.left;
  words : l.low.words ≡ l.initial.low.words;
  width : l.low.width ≡ l.initial.low.width;
  read : l.low.read + digit_count l.left ≤ l.initial.low.read + digit_count (l.end - l.first);
}

abbrev pub decreases-loop-left : goal.decreases-loop-left
decreases-loop-left l = l.left
