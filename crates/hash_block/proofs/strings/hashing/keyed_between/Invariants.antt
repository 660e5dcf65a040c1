use Rattle.std.proofs.Common.{◌≡◌}
use Rattle.hash_block.specs.Bytes.{bytes_from}
use Rattle.hash_block.specs.SipHash.{after_words, keyed}
use Rattle.hash_block.proofs.strings.hashing.keyed_between.Given as goal

-- the state after the words so far
abbrev pub invariant-loop-i : goal.invariant-loop-i
invariant-loop-i l = l.state ≡ after_words (keyed l.seed l.kind) (bytes_from l.bytes l.begin) l.i
