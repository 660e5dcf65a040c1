use Rattle.std.proofs.Common.{◌≢◌}
use Rattle.bit_lists.specs.Bits.{bits_of}
use Rattle.hash_buckets.specs.Seeds.{HaveFreeSlots}
use Rattle.hash_buckets.proofs.choosing.best_seed.Given as goal

-- by the best seed so far the hashes have free slots of their own
abbrev pub invariant-loop-seed : goal.invariant-loop-seed
invariant-loop-seed l = l.best ≢ 0 → HaveFreeSlots l.level l.best l.first l.hashes (bits_of l.used)
