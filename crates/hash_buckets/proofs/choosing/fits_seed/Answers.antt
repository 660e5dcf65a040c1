-- Each hash has a free slot that is no slot of those before it.
use Rattle.std.proofs.Common.{sym, ◌∙◌, arith}
use Rattle.bit_lists.specs.Bits.{bits_of}
use Rattle.hash_buckets.proofs.lemmas.ApartLemmas.{apart-more}
use Rattle.hash_buckets.proofs.choosing.fits_seed.Goals as goal

pub loop-i-preserved : goal.loop-i-preserved
loop-i-preserved c =
    apart-more c.args.level.now c.args.seed c.args.first c.args.hashes.now (bits_of c.args.used.now) c.loop-i.i c.slot_at-slot.result
    c.loop-i-test.true c.loop-i.invariant c.slot_at-slot.ensures.at (sym c.get_bit.ensures ∙ c.if-get_bit.false)
    (c.is_among.ensures c.if-is_among.false c.args.first)

pub bounds-begins-i : goal.bounds-begins-i
bounds-begins-i c = omega (arith, c.requires.begins.enough, c.loop-i-test.true)

pub slot_at-slot-requires-clause-begin : goal.slot_at-slot-requires-clause-begin
slot_at-slot-requires-clause-begin c = c.requires.begins.are c.loop-i.i c.loop-i-test.true

pub slot_at-slot-requires-clause-inside : goal.slot_at-slot-requires-clause-inside
slot_at-slot-requires-clause-inside c = c.requires.begins.inside c.loop-i.i c.loop-i-test.true
