use Rattle.std.proofs.Common.{◌≡◌, take}
use Rattle.bit_lists.specs.Bits.{bits_of}
use Rattle.bit_lists.specs.Count.{as_bit}
use Rattle.bit_words.specs.Listed.{outside_of, IsSetAt}
use Rattle.bit_words.proofs.slices.listed.set_listed.Given as goal

-- the positions so far
abbrev pub invariant-loop-position : goal.invariant-loop-position
invariant-loop-position g l = record {
  outside : l.outside ≡ outside_of l.len (take l.position-index l.positions);
  bits : IsSetAt (bits_of l.fn.words) l.len (as_bit g.row.BIT) (take l.position-index l.positions) (bits_of l.words);
}
