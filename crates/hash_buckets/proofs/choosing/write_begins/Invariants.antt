use Rattle.hash_buckets.specs.Seeds.{AreBegins}
use Rattle.hash_buckets.proofs.choosing.write_begins.Given as goal

-- the slices so far begin there
abbrev pub invariant-loop-i : goal.invariant-loop-i
invariant-loop-i l = AreBegins l.level l.hashes l.i l.begins
