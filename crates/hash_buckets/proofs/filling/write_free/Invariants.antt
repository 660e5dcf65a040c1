use Rattle.bit_lists.specs.Bits.{bits_of}
use Rattle.hash_buckets.proofs.lemmas.FreeLemmas.{IsFilled}
use Rattle.hash_buckets.proofs.filling.write_free.Given as goal

-- the list so far stands for the slots from the keys on
abbrev pub invariant-loop-i : goal.invariant-loop-i
invariant-loop-i l = IsFilled (bits_of l.used) l.keys l.free l.i l.last l.at
