use Rattle.std.proofs.Common.{◌≡◌, ◌*◌, map}
use Rattle.std.specs.List.{range_with_len}
use Rattle.bit_lists.specs.Bits.{bits_of}
use Rattle.bit_lists.specs.Count.{ones_before}
use Rattle.bitm.proofs.simple.make.Given as goal

-- the entries up to this run, and the ones before it
abbrev pub invariant-loop-run : goal.invariant-loop-run
invariant-loop-run l = record {
  entries : l.ranks.items ≡ map (λ k. ones_before (bits_of l.words) (512 * k)) (range_with_len 0 l.run);
  count : l.total ≡ ones_before (bits_of l.words) (512 * l.run);
}
