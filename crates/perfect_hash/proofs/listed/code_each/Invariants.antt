use Rattle.std.proofs.Common.{◌≡◌, ℕ, ◌<◌, ◌≤◌, slice_index}
use Rattle.perfect_hash.specs.Listed.{IsCode}
use Rattle.perfect_hash.proofs.listed.code_each.Given as goal

-- the ranks so far are coded, the others as they were
abbrev pub invariant-loop-k : goal.invariant-loop-k
invariant-loop-k l = record {
  done : (k : ℕ) → k < l.k → IsCode (slice_index l.positions k) (slice_index l.fn.numbers k) l.count l.absent (slice_index l.numbers k);
  rest : (k : ℕ) → l.k ≤ k → slice_index l.numbers k ≡ slice_index l.fn.numbers k;
}
