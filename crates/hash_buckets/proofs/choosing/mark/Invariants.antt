use Rattle.std.proofs.Common.{take}
use Rattle.bit_lists.specs.Bits.{bits_of}
use Rattle.hash_buckets.specs.Seeds.{count_at, AddsBits}
use Rattle.hash_buckets.proofs.choosing.mark.Given as goal

-- the bits of the hashes so far are set
abbrev pub invariant-loop-hash : goal.invariant-loop-hash
invariant-loop-hash l = AddsBits (bits_of l.fn.used) (count_at l.level l.seed l.first (take l.hash-index l.hashes)) (bits_of l.used)
