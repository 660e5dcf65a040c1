use Rattle.std.proofs.Common.{◌≡◌, ℕ, ◌+◌, ◌<◌, ◌≤◌, slice_index}
use Rattle.hash_buckets.proofs.checking.rise_below.Given as goal

-- the numbers so far rise below the bound, up to the last
abbrev pub invariant-loop-number : goal.invariant-loop-number
invariant-loop-number l = record {
  below : (k : ℕ) → k < l.number-index → slice_index l.numbers k < l.bound;
  rise : (j k : ℕ) → j ≤ k → k < l.number-index → slice_index l.numbers j ≤ slice_index l.numbers k;
  none : l.number-index ≡ 0 → l.last ≡ 0;
  last_is : (k : ℕ) → k + 1 ≡ l.number-index → l.last ≡ slice_index l.numbers k;
}
