use Rattle.std.specs.List.{count_by}
use Rattle.bit_lists.specs.Bits.{bits_of}
use Rattle.hash_buckets.specs.Seeds.{has_slot, AddsBits}
use Rattle.hash_buckets.proofs.level.place_each.Given as goal

-- the bits of the slots that the hashes have by the seeds so far are 1
abbrev pub invariant-loop-bucket : goal.invariant-loop-bucket
invariant-loop-bucket l =
    AddsBits (bits_of l.fn.used) (λ q. count_by (has_slot l.level l.seeds l.first q) l._hashes) (bits_of l.used)
