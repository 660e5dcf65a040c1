-- A number of no bits is 0; another is read from the words.
use Rattle.std.proofs.Common.{◌<◌, sym, arith}
use Rattle.bit_lists.proofs.lemmas.BitsLemmas.{length-bits_of}
use Rattle.bit_lists.specs.Bits.{bits_of}
use Rattle.bit_lists.specs.Number.{IsInRange}
use Rattle.bit_words.proofs.lemmas.FirstLemmas.{found_where, no_number, number_first}
use Rattle.bit_words.specs.First.{first_bits}
use Rattle.bit_words.proofs.slices.numbers.number_in.Goals as goal

pub returns-then-width-eq0 : goal.returns-then-width-eq0
returns-then-width-eq0 c = (
  c.is_inside.ensures.0 c.if-not-is_inside.false,
  sym (no_number (first_bits c.args.words.now c.args.len) c.args.begin c.args.width c.if-width-eq0.true),
)

pub returns : goal.returns
returns c =
    let words = c.args.words.now in
    let inside = c.is_inside.ensures.0 c.if-not-is_inside.false in
    let some : 0 < c.args.width = omega (arith, c.if-width-eq0.false) in
    let range : IsInRange words c.args.begin c.args.width =
    (omega (arith, inside.1, some, c.requires), omega (arith, inside.1, c.requires)) in
    let same = number_first (bits_of words) c.args.len c.args.begin c.args.width inside.1 (omega (arith, c.requires, length-bits_of words)) in
    found_where c.try_get_bits_0_64.result _ _ _ _ (inside.0, range) inside (sym same) c.try_get_bits_0_64.ensures
