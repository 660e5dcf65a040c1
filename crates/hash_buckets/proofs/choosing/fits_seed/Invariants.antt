use Rattle.std.proofs.Common.{take}
use Rattle.bit_lists.specs.Bits.{bits_of}
use Rattle.hash_buckets.specs.Seeds.{HaveFreeSlots}
use Rattle.hash_buckets.proofs.choosing.fits_seed.Given as goal

-- the hashes so far have free slots of their own
abbrev pub invariant-loop-i : goal.invariant-loop-i
invariant-loop-i l = HaveFreeSlots l.level l.seed l.first (take l.i l.hashes) (bits_of l.used)
