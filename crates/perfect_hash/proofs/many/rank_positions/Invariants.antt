use Rattle.std.proofs.Common.{◌≡◌, ℕ, ◌<◌, ◌≤◌, slice_index}
use Rattle.perfect_hash.specs.Many.{IsNumberOfPosition}
use Rattle.perfect_hash.proofs.many.rank_positions.Given as goal

-- the positions so far are ranked, the others as they were
abbrev pub invariant-loop-k : goal.invariant-loop-k
invariant-loop-k g l = record {
  done : (k : ℕ) → k < l.k → IsNumberOfPosition (g.I.HasBits.bits l.index) (slice_index l.fn.positions k) (slice_index l.positions k);
  rest : (k : ℕ) → l.k ≤ k → slice_index l.positions k ≡ slice_index l.fn.positions k;
}
