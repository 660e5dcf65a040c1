use Rattle.std.proofs.Common.{◌≡◌}
use Rattle.hash_block.specs.Bytes.{bytes_from}
use Rattle.hash_block.specs.Kinds.{fnv_of}
use Rattle.hash_block.proofs.strings.fnv.fnv_between.Given as goal

-- the hash of the bytes so far
abbrev pub invariant-loop-j : goal.invariant-loop-j
invariant-loop-j l = l.hash ≡ fnv_of l.seed (bytes_from l.bytes l.begin) l.j
