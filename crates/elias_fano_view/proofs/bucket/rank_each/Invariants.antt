use Rattle.std.proofs.Common.{◌≡◌, ◌-◌, ◌/◌, ◌^◌, ◌<◌, ℕ, slice_index}
use Rattle.elias_fano_view.proofs.bucket.rank_each.Given as goal

-- the ranks so far
abbrev pub invariant-loop-k : goal.invariant-loop-k
invariant-loop-k l = (j : ℕ) → j < l.k → slice_index l.ranks j ≡ slice_index l.values j / 2 ^ l.width - l.less
