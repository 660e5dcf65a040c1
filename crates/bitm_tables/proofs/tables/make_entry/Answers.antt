-- The entry's counts are those of its four records, one after the other.
use Rattle.std.proofs.Common.{◌+◌, ap, ◌∙◌, arith}
use Rattle.bit_lists.specs.Bits.{bits_of}
use Rattle.bitm_tables.proofs.lemmas.TableMakingLemmas.{counts_records, before_in_part-lt}
use Rattle.bitm_tables.specs.Entry.{packed_counts}
use Rattle.bitm_tables.proofs.tables.make_entry.Goals as goal

pub pack-requires-clause-before : goal.pack-requires-clause-before
pack-requires-clause-before c = omega (arith, c.requires.before, before_in_part-lt (bits_of c.args.words.now) c.args.at)

pub returns : goal.returns
returns c =
    let w = c.ones_of_record-one.result in
    let x = c.ones_of_record.result in
    let y = c.ones_of_record-2.result in
    let z = c.ones_of_record-3.result in
    let h = counts_records (bits_of c.args.words.now) c.args.at w x y z
    c.ones_of_record-one.ensures.ones c.ones_of_record.ensures.ones c.ones_of_record-2.ensures.ones c.ones_of_record-3.ensures.ones in
    record { entry = c.pack.ensures ∙ ap (λ n. packed_counts n w (w + x) (w + x + y)) c.requires.before ∙ h.entry; ones = h.ones }
