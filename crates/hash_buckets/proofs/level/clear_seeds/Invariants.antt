use Rattle.std.proofs.Common.{◌≡◌, ℕ, ◌<◌, slice_index}
use Rattle.hash_buckets.proofs.level.clear_seeds.Given as goal

-- the seeds so far are 0
abbrev pub invariant-loop-seed : goal.invariant-loop-seed
invariant-loop-seed l = (k : ℕ) → k < l.seed-index → slice_index l.seeds k ≡ 0
