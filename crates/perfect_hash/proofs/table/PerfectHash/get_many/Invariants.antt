use Rattle.std.proofs.Common.{◌≡◌, ℕ, ◌-◌, ◌<◌, ◌≤◌, length, slice_index}
use Rattle.std.specs.Prelude.{Some, slice_get}
use Rattle.perfect_hash.specs.Many.{number_code}
use Rattle.perfect_hash.specs.Parts.{number_at}
use Rattle.perfect_hash.proofs.table.PerfectHash.get_many.Given as goal

-- the keys so far are numbered
abbrev pub invariant-loop-from : goal.invariant-loop-from
invariant-loop-from g l = record {
  inside : l.from ≤ length l.keys;
  long : length l.numbers ≡ length l.keys;
  each : (k : ℕ) (key : g.row.K.Denot) → k < l.from → slice_get l.keys k ≡ Some key
      → slice_index l.numbers k ≡ number_code (number_at g.P.Placing.fall g.H.KeyHash.hash l.self key);
}

abbrev pub decreases-loop-from : goal.decreases-loop-from
decreases-loop-from g l = length l.keys - l.from
