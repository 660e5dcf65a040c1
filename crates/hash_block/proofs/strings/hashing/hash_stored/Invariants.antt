use Rattle.std.proofs.Common.{◌≡◌}
use Rattle.hash_block.specs.Bytes.{stored_from}
use Rattle.hash_block.specs.SipHash.{after_words, keyed}
use Rattle.hash_block.proofs.strings.hashing.hash_stored.Given as goal

-- the state after the words so far
abbrev pub invariant-loop-i : goal.invariant-loop-i
invariant-loop-i l = l.state ≡ after_words (keyed l.seed 0) (stored_from l.words l.begin) l.i
