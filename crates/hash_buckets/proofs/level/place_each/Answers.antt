-- One more bucket may have its seed.
use Rattle.bit_lists.specs.Bits.{bits_of}
use Rattle.hash_buckets.proofs.lemmas.PlacedLemmas.{placed-more, placed-start}
use Rattle.hash_buckets.proofs.level.place_each.Goals as goal
use Rattle.hash_buckets.proofs.level.place_each.Goals.{in-Some, in_default}

pub loop-bucket-init : goal.loop-bucket-init
loop-bucket-init c =
    placed-start c.args.level.now c.clear_seeds.new.seeds c.args.first c.args._hashes.now (bits_of c.args.used.now) c.clear_seeds.ensures.zeros

pub loop-bucket-preserved : goal.loop-bucket-preserved
loop-bucket-preserved c =
    let l = c.loop-bucket in
    elim c.match-pass.branch [
      | in-Some w ↦ rw (w.seeds-is, w.used-is)
          (placed-more c.args.level.now l.seeds w.place_bucket.new.seeds c.args.first c.args._hashes.now (bits_of c.args.used.now) (bits_of l.used)
          (bits_of w.place_bucket.new.used) l.invariant w.place_bucket.ensures.marks)
      | in_default w ↦ rw (w.seeds-is, w.used-is) l.invariant
    ]
