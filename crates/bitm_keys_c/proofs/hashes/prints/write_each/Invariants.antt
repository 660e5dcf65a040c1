use Rattle.std.proofs.Common.{◌≡◌, IsTrue, length}
use Rattle.bitm_keys_c.specs.Prints.{AreSet}
use Rattle.bitm_keys_c.proofs.hashes.prints.write_each.Given as goal

-- the fingerprints of the keys so far are set
abbrev pub invariant-loop-at : goal.invariant-loop-at
invariant-loop-at l = record {
  long : length l.prints ≡ length l.initial.prints;
  set : AreSet l.hash l.key_hashes l.key_prints l.initial.prints l.prints l.width l.at (IsTrue l.all);
}
