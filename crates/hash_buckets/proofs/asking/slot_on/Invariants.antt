use Rattle.bitm_tables.specs.Reads.{ReadsAtMost}
use Rattle.hash_buckets.proofs.lemmas.SlotLemmas.{GoesOn}
use Rattle.hash_buckets.proofs.asking.slot_on.Given as goal

-- the look-up goes on from here, and one seed was read of each level before
abbrev pub invariant-loop-level : goal.invariant-loop-level
invariant-loop-level l = record {
  on : GoesOn l.levels l.seeds l.hash l.level-index l.begin l.first l.here;
  reads : ReadsAtMost l.fn.reads l.reads 0 0 l.level-index;
}
