use Rattle.std.proofs.Common.{◌*◌}
use Rattle.bit_lists.specs.Bits.{bits_of}
use Rattle.bit_words.specs.Copied.{AreSame}
use Rattle.bit_words.proofs.slices.equality.is_equal_range.Given as goal

-- the words so far are the same
abbrev pub invariant-loop-k : goal.invariant-loop-k
invariant-loop-k l = AreSame (bits_of l.a) l.a_begin (bits_of l.b) l.b_begin (64 * l.k)
