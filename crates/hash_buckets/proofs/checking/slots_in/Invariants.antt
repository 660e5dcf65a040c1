use Rattle.hash_buckets.proofs.lemmas.SlotLemmas.{AreSoFar}
use Rattle.hash_buckets.proofs.checking.slots_in.Given as goal

-- the levels so far fit
abbrev pub invariant-loop-level : goal.invariant-loop-level
invariant-loop-level l = AreSoFar l.levels l.seeds l.level-index l.begin l.first
