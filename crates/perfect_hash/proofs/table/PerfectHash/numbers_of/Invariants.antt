use Rattle.std.proofs.Common.{◌≡◌, ℕ, ◌-◌, ◌<◌, ◌≤◌, length, slice_index}
use Rattle.perfect_hash.specs.Many.{number_code}
use Rattle.perfect_hash.specs.Parts.{number_from}
use Rattle.perfect_hash.proofs.table.PerfectHash.numbers_of.Given as goal

-- the hashes so far are numbered
abbrev pub invariant-loop-from : goal.invariant-loop-from
invariant-loop-from g l = record {
  inside : l.from ≤ length l.hashes;
  long : length l.numbers ≡ length l.hashes;
  each : (k : ℕ) → k < l.from → slice_index l.numbers k ≡ number_code (number_from g.P.Placing.fall l.self (slice_index l.hashes k));
}

abbrev pub decreases-loop-from : goal.decreases-loop-from
decreases-loop-from g l = length l.hashes - l.from
