use Rattle.std.proofs.Common.{◌*◌}
use Rattle.bit_lists.specs.Bits.{bits_of}
use Rattle.bit_lists.specs.Count.{as_bit}
use Rattle.bit_words.specs.Where.{HasWhere}
use Rattle.bit_words.proofs.slices.comparing.has_where.Given as goal

-- the words so far
abbrev pub invariant-loop-k : goal.invariant-loop-k
invariant-loop-k g l = HasWhere (bits_of l.a) (bits_of l.b) (as_bit g.row.BIT) 0 (64 * l.k)
