-- Where the parts are those of a sequence each of its positions has a one.
use Rattle.std.proofs.Common.{◌<◌, length, true, arith}
use Rattle.bit_lists.proofs.lemmas.BitsLemmas.{length-bits_of}
use Rattle.bit_lists.specs.Bits.{bits_of}
use Rattle.bit_lists.specs.Count.{count_of}
use Rattle.elias_fano.proofs.lemmas.ItemLemmas.{upper-short}
use Rattle.elias_fano.proofs.lemmas.UpperLemmas.{ones_are}
use Rattle.elias_fano_view.proofs.sequence.item_of.Goals as goal

pub returns-then-one-ge-WRONG_TABLES-clause-answer : goal.returns-then-one-ge-WRONG_TABLES-clause-answer
returns-then-one-ge-WRONG_TABLES-clause-answer c = λ xs upper h claimed.
    let count = ones_are xs c.args.low.now.width _ h.are.upper_is in
    let some : c.args.index < count_of (bits_of upper.words) true = omega (arith, h.are.count, count, c.if-index-n.false) in
    omega (
      arith,
      (claimed.some h.tables some).inside,
      length-bits_of upper.words,
      upper-short _ _ _ _ _ h.are,
      c.if-one-ge-WRONG_TABLES.true,
    )

pub returns-clause-answer : goal.returns-clause-answer
returns-clause-answer c = λ xs upper h claimed.
    let count = ones_are xs c.args.low.now.width _ h.are.upper_is in
    let inside : c.args.index < length xs = omega (arith, h.are.count, c.if-index-n.false) in
    let some : c.args.index < count_of (bits_of upper.words) true = omega (arith, inside, count) in (
      inside,
      c.item_at_one.ensures.item xs c.args.n _
          record { parts = h.are; inside = omega (arith, c.if-index-n.false); one = claimed.some h.tables some },
    )
