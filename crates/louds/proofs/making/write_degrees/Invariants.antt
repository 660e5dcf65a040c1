use Rattle.std.proofs.Common.{◌≡◌, ◌+◌}
use Rattle.bit_lists.specs.Bits.{bits_of}
use Rattle.louds.proofs.lemmas.WriteLemmas.{IsBegun}
use Rattle.louds.specs.Held.{zero_position}
use Rattle.louds.proofs.making.write_degrees.Given as goal

-- so many nodes are written
abbrev pub invariant-loop-i : goal.invariant-loop-i
invariant-loop-i l = record {
  position : l.position ≡ zero_position l.degrees l.i + 1;
  begun : IsBegun l.degrees l.i (bits_of l.words);
}
