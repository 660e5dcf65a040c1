use Rattle.hash_block.specs.Bytes.{bytes_from, StandsAt}
use Rattle.hash_block.proofs.strings.bytes.is_at.Given as goal

-- the bytes so far are those of the string
abbrev pub invariant-loop-j : goal.invariant-loop-j
invariant-loop-j l = StandsAt l.words l.at (bytes_from l.bytes l.begin) l.j
