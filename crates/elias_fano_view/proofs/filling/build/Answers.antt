-- Sorted numbers are a sequence, and what was written are its parts.
use Rattle.std.proofs.Common.{ℕ, ◌<◌, ◌^◌, List, length, get_or, refl, Fits, w64, arith}
use Rattle.std.specs.List.Sorted.{IsNonDecreasing}
use Rattle.elias_fano.proofs.lemmas.HintLemmas.{none_lead}
use Rattle.elias_fano.proofs.lemmas.SequenceLemmas.{is_sequence}
use Rattle.elias_fano.proofs.lemmas.SizeLemmas.{width-small}
use Rattle.elias_fano.specs.Sequence.{IsSequence}
use Rattle.elias_fano_view.proofs.RoomLemmas.{upper-words-few, room-sizes}
use Rattle.elias_fano_view.proofs.filling.build.Goals as goal

sequence : (xs : List ℕ) → length xs < 2 ^ 56 → IsNonDecreasing xs → ((k : ℕ) → Fits w64 (get_or xs k 0)) → IsSequence xs
sequence xs short rising fits = is_sequence xs short rising (λ k. omega (arith, fits k))

pub write_low-requires-clause-width : goal.write_low-requires-clause-width
write_low-requires-clause-width c =
    let xs = sequence c.args.items.now c.in-Some.ensures.0.short c.if-not-is_rising.ensures c.type_inv.items in
    omega (arith, width-small c.args.items.now xs.small, c.in-Some.ensures.1)

pub write_tested-requires-clause-width : goal.write_tested-requires-clause-width
write_tested-requires-clause-width c =
    let xs = sequence c.args.items.now c.in-Some.ensures.0.short c.if-not-is_rising.ensures c.type_inv.items in
    omega (arith, width-small c.args.items.now xs.small, c.in-Some.ensures.1)

pub write_tested-requires-clause-short : goal.write_tested-requires-clause-short
write_tested-requires-clause-short c =
    upper-words-few c.args.items.now _ _ _ _ c.in-Some.width c.in-Some.ensures.0 c.in-Some.ensures.1

pub unreachable-requires : goal.unreachable-requires
unreachable-requires c =
    c.in-None.ensures.ones
    (room-sizes c.args.items.now _ _ _ _ c.in-Some.width c.in-Some.ensures.0 c.in-Some.ensures.1
    c.write_tested.new.words c.write_tested.ensures.upper)

pub returns-clause-parts : goal.returns-clause-parts
returns-clause-parts c = record {
  are = record {
    sequence = sequence c.args.items.now c.in-Some.ensures.0.short c.if-not-is_rising.ensures c.type_inv.items;
    count = refl;
    width = c.in-Some.ensures.1;
    low_is = c.write_low.ensures;
    upper_is = c.write_tested.ensures.upper;
  };
  tables = c.in-Some-build.ensures.tables;
  lead = none_lead _ _;
}
