use Rattle.std.proofs.Common.{◌≡◌}
use Rattle.hash_block.specs.Bytes.{stored_from}
use Rattle.hash_block.specs.Kinds.{fnv_of}
use Rattle.hash_block.proofs.strings.fnv.fnv_stored.Given as goal

-- the hash of the bytes so far
abbrev pub invariant-loop-j : goal.invariant-loop-j
invariant-loop-j l = l.hash ≡ fnv_of l.seed (stored_from l.words l.begin) l.j
