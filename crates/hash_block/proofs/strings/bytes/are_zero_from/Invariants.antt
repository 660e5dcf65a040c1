use Rattle.std.proofs.Common.{◌≡◌, ◌<◌, ◌≤◌, ℕ}
use Rattle.hash_block.specs.Bytes.{byte_of}
use Rattle.hash_block.proofs.strings.bytes.are_zero_from.Given as goal

-- the bytes so far are 0
abbrev pub invariant-loop-k : goal.invariant-loop-k
invariant-loop-k l = (i : ℕ) → l.first ≤ i → i < l.k → byte_of l.words i ≡ 0
