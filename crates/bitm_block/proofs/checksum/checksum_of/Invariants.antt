use Rattle.std.proofs.Common.{◌≡◌, ◌*◌, drop}
use Rattle.bitm_block.specs.Checksum.{chains_from, checksum_of}
use Rattle.bitm_block.proofs.checksum.checksum_of.Given as goal

-- the words that are left lead from here to the checksum of all
abbrev pub invariant-loop-i : goal.invariant-loop-i
invariant-loop-i l = chains_from l.a l.b l.c l.d (drop (4 * l.i) l.words) ≡ checksum_of l.words
