use Rattle.std.proofs.Common.{◌≡◌, drop}
use Rattle.bitm_block.specs.Checksum.{checksum_from}
use Rattle.bitm_block.proofs.checksum.chain.Given as goal

-- the words that are left lead from here to the checksum with all
abbrev pub invariant-loop-word : goal.invariant-loop-word
invariant-loop-word l = checksum_from l.sum (drop l.word-index l.words) ≡ checksum_from l.start l.words
