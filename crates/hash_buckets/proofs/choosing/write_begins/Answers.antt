-- One more slice begins.
use Rattle.std.proofs.Common.{arith}
use Rattle.hash_buckets.proofs.lemmas.ApartLemmas.{begins-more}
use Rattle.hash_buckets.proofs.choosing.write_begins.Goals as goal

pub loop-i-preserved : goal.loop-i-preserved
loop-i-preserved c =
    begins-more c.args.level.now c.args.hashes.now c.loop-i.begins c.loop-i.i c.slice_in.result c.loop-i.invariant
    (omega (arith, c.loop-i-test.true, c.loop-i.auto.begins, c.requires.room)) c.slice_in.ensures.at c.slice_in.ensures.inside
