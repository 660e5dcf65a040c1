-- All bits of the range are 1 bits or 0 bits.
use Rattle.std.proofs.Common.{◌≡◌, ◌-◌, true, subst, sym, Bool, arith}
use Rattle.bit_lists.proofs.lemmas.BitsLemmas.{length-bits_of}
use Rattle.bit_lists.specs.Bits.{bits_of}
use Rattle.bit_lists.specs.Count.{count_before}
use Rattle.bit_words.proofs.lemmas.FirstLemmas.{count_first, zeros_counted}
use Rattle.bit_words.specs.First.{first_bits}
use Rattle.bit_words.proofs.slices.counting.count_range_in.Goals as goal

pub overflow_sub-result-else-one : goal.overflow_sub-result-else-one
overflow_sub-result-else-one c =
    let words = c.args.words.now in
    (zeros_counted (bits_of words) c.args.len c.args.from c.args.to c.count_range-ones.result c.requires.order c.requires.inside
    (omega (arith, c.requires.len, length-bits_of words)) c.count_range-ones.ensures).0

pub returns-then-one : goal.returns-then-one
returns-then-one c =
    let words = c.args.words.now in
    let n = c.args.len in
    subst (λ (v : Bool). c.count_range-ones.result ≡ count_before (first_bits words n) v c.args.to - count_before (first_bits words n) v c.args.from)
    (sym c.if-one.true)
    (omega (
      arith,
      c.count_range-ones.ensures,
      count_first (bits_of words) n true c.args.to c.requires.inside,
      count_first (bits_of words) n true c.args.from (omega (arith, c.requires.order, c.requires.inside)),
    ))

pub returns-else-one : goal.returns-else-one
returns-else-one c =
    let words = c.args.words.now in
    let n = c.args.len in
    subst (λ (v : Bool). c.args.to - c.args.from - c.count_range-ones.result ≡ count_before (first_bits words n) v c.args.to - count_before (first_bits words n) v c.args.from)
    (sym c.if-one.false)
    (zeros_counted (bits_of words) n c.args.from c.args.to c.count_range-ones.result c.requires.order c.requires.inside
    (omega (arith, c.requires.len, length-bits_of words)) c.count_range-ones.ensures).1
