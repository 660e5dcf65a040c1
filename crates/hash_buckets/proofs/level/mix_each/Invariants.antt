use Rattle.std.proofs.Common.{◌≡◌, ℕ, ◌<◌, ◌≤◌, slice_index}
use Rattle.hash_buckets.specs.Positions.{next_of}
use Rattle.hash_buckets.proofs.level.mix_each.Given as goal

-- the hashes so far are mixed, the others as they were
abbrev pub invariant-loop-hash : goal.invariant-loop-hash
invariant-loop-hash l = record {
  done : (k : ℕ) → k < l.hash-index → slice_index l.hashes k ≡ next_of (slice_index l.fn.hashes k);
  rest : (k : ℕ) → l.hash-index ≤ k → slice_index l.hashes k ≡ slice_index l.fn.hashes k;
}
