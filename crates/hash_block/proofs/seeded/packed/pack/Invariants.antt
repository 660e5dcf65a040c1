use Rattle.std.proofs.Common.{◌≡◌, length}
use Rattle.hash_block.proofs.SeedLemmas.{ArePacked}
use Rattle.hash_block.proofs.seeded.packed.pack.Given as goal

-- the seeds so far are written, and zeros stand after them
abbrev pub invariant-loop-k : goal.invariant-loop-k
invariant-loop-k l = record {
  packed : ArePacked l.to l.seeds l.k;
  len : length l.to ≡ length l.initial.to;
}
