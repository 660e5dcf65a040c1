use Rattle.std.proofs.Common.{length, take}
use Rattle.bit_lists.specs.Bits.{bits_of}
use Rattle.perfect_hash.proofs.lemmas.MarkLemmas.{IsMarked}
use Rattle.perfect_hash.proofs.levels.level.mark.Given as goal

-- the hashes so far are marked
abbrev pub invariant-loop-hash : goal.invariant-loop-hash
invariant-loop-hash g l =
    IsMarked (g.P.Placing.fall l.placing l.begin) (take l.hash-index l.hashes) l.level (length l.fn.hit) (bits_of l.hit) (bits_of l.again)
