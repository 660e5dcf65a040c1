-- No hash so far has the slot.
use Rattle.hash_buckets.proofs.lemmas.ApartLemmas.{among-more, among-all}
use Rattle.hash_buckets.proofs.choosing.is_among.Goals as goal

pub loop-hash-preserved : goal.loop-hash-preserved
loop-hash-preserved c =
    among-more c.args.level.now c.args.seed c.args.hashes.now c.loop-hash.hash-index c.args.slot c.slot_in.result
    c.loop-hash-test.true c.slot_in.ensures.at c.if-slot_in-slot.false c.loop-hash.invariant

pub returns : goal.returns
returns c = λ _. among-all c.args.level.now c.args.seed c.args.hashes.now c.loop-hash.hash-index c.args.slot c.loop-hash-test.false c.loop-hash.invariant
