use Rattle.std.proofs.Common.{◌≡◌, ℕ, ◌<◌, length, slice_index}
use Rattle.std.specs.Prelude.{Some, slice_get}
use Rattle.perfect_hash.proofs.table.PerfectHash.hash_each.Given as goal

-- the keys so far are hashed
abbrev pub invariant-loop-k : goal.invariant-loop-k
invariant-loop-k g l = record {
  long : length l.hashes ≡ length l.keys;
  each : (k : ℕ) (key : g.row.K.Denot) → k < l.k → slice_get l.keys k ≡ Some key → slice_index l.hashes k ≡ g.H.KeyHash.hash l.self.hasher key;
}
