use Rattle.std.proofs.Common.{◌≡◌, length}
use Rattle.hash_block.proofs.ByteLemmas.{AreCopied}
use Rattle.hash_block.proofs.strings.bytes.write_bytes.Given as goal

-- the bytes so far are copied, and the others are as they were
abbrev pub invariant-loop-j : goal.invariant-loop-j
invariant-loop-j l = record {
  copied : AreCopied l.initial.to l.to l.from l.begin l.at l.j;
  len : length l.to ≡ length l.initial.to;
}
