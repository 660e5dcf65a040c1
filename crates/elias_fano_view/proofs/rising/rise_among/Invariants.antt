use Rattle.std.proofs.Common.{◌≡◌, ◌*◌, ◌≤◌}
use Rattle.bit_lists.specs.Bits.{bits_of}
use Rattle.bit_lists.specs.Count.{ones_before}
use Rattle.elias_fano_view.specs.Checks.{NeighboursRise}
use Rattle.elias_fano_view.proofs.rising.rise_among.Given as goal

-- the 1 bits of the words so far are counted, at most n, and neighbours among them rise
abbrev pub invariant-loop-k : goal.invariant-loop-k
invariant-loop-k l = record {
  count : l.ones ≡ ones_before (bits_of l.words) (64 * l.k);
  most : l.ones ≤ l.n;
  rise : NeighboursRise l.gap l.width l.low l.words 0 (64 * l.k);
}
