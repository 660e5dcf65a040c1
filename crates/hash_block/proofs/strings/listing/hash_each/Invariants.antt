use Rattle.std.proofs.Common.{◌≡◌, ℕ, ◌<◌, slice_index}
use Rattle.hash_block.specs.Given.{given, len_of}
use Rattle.hash_block.specs.SipHash.{hash_of}
use Rattle.hash_block.proofs.strings.listing.hash_each.Given as goal

-- the hashes so far
abbrev pub invariant-loop-i : goal.invariant-loop-i
invariant-loop-i l = (k : ℕ) → k < l.i → slice_index l.out k ≡ hash_of l.seed (given l.bytes l.ends k) (len_of l.ends k)
