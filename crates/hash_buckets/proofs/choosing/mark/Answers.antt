-- One more bit is set.
use Rattle.std.proofs.Common.{List, Bool, take, ◌+◌, sym, subst, arith}
use Rattle.bit_lists.specs.Bits.{bits_of}
use Rattle.bit_lists.proofs.BitLaws.{bits_are_counted}
use Rattle.hash_buckets.specs.Seeds.{count_at, AddsBits}
use Rattle.hash_buckets.proofs.lemmas.ApartLemmas.{bits-more}
use Rattle.hash_buckets.proofs.choosing.mark.Goals as goal

pub loop-hash-preserved : goal.loop-hash-preserved
loop-hash-preserved c =
    let level = c.args.level.now in
    let hashes = c.args.hashes.now in
    let i = c.loop-hash.hash-index in
    let P : List Bool → Type 0 = λ used. AddsBits (bits_of c.args.used.now) (count_at level c.args.seed c.args.first (take (i + 1) hashes)) used in
    subst P (sym c.set_bit.ensures)
    (bits-more level c.args.seed c.args.first hashes (bits_of c.args.used.now) (bits_of c.loop-hash.used) i c.slot_in.result
    c.loop-hash-test.true c.requires.apart c.slot_in.ensures.at
    (omega (arith, bits_are_counted c.loop-hash.used, c.slot_in.ensures.inside, c.requires.fits.inside, c.loop-hash.auto.used)) c.loop-hash.invariant)
