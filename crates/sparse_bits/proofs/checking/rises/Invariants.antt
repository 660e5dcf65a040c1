use Rattle.std.proofs.Common.{◌<◌, ℕ, get_or}
use Rattle.sparse_bits.proofs.checking.rises.Given as goal

abbrev pub invariant-loop-at : goal.invariant-loop-at
invariant-loop-at l = record { rising : (i j : ℕ) → i < j → j < l.at → get_or l.numbers i 0 < get_or l.numbers j 0 }
