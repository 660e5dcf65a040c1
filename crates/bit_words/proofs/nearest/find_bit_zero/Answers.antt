-- The first one of the negated words, of which one more is read while nothing is left.
use Rattle.std.proofs.Common.{rules, ◌+◌, ◌/◌, ◌^◌, ◌<◌, get_or, sym, ap, ◌∙◌, arith}
use Rattle.std.specs.Int.{bit_not, w64}
use Rattle.bit_lists.proofs.lemmas.BitsLemmas.{length-bits_of}
use Rattle.bit_words.proofs.lemmas.FindLemmas.{IsRestFrom-start, IsRestFrom-next, none_left, none_from, first_left}
use Rattle.bit_words.proofs.lemmas.ZeroLemmas.{negation, length-negation, get_or-negation, first_zero, no_zero}
use Rattle.bit_words.proofs.nearest.find_bit_zero.Goals as goal

pub returns-in_err-rest : goal.returns-in_err-rest
returns-in_err-rest c =
    let words = c.args.words.now in
    rw c.from_residual.ensures
    (no_zero words (λ k. search rules) c.args.start
    (none_from (negation words) c.args.start (omega (arith, c.in_err-rest.ensures.lookup.3, length-negation words))))

pub loop-rest-init : goal.loop-rest-init
loop-rest-init c =
    let words = c.args.words.now in
    let read = c.in_ok-rest.ensures.lookup in
    let inside = read.3.0 in
    let word = ap (bit_not w64) (read.4 (omega arith) 0) ∙ sym (get_or-negation words (c.args.start / 64) inside) in
    let fits : get_or (negation words) (c.args.start / 64) 0 < 2 ^ 64 = omega (arith, get_or-negation words (c.args.start / 64) inside) in
    record {
      left = IsRestFrom-start (negation words) c.args.start _ _ (omega (arith, inside, length-negation words)) word fits c.n_lowest_bits.ensures;
      near = omega arith;
    }

pub returns-in_err-rest-2 : goal.returns-in_err-rest-2
returns-in_err-rest-2 c =
    let words = c.args.words.now in
    rw c.from_residual-in_err-rest-2.ensures
    (no_zero words (λ k. search rules) c.args.start
    (none_left (negation words) c.args.start _ _ c.loop-rest.invariant.left c.loop-rest-test.true
    (omega (arith, c.in_err-rest-2.ensures.lookup.3, length-negation words))))

pub loop-rest-preserved : goal.loop-rest-preserved
loop-rest-preserved c =
    let words = c.args.words.now in
    let h = c.loop-rest.invariant in
    let next = c.loop-rest.word_index + 1 in
    let read = c.in_ok-rest-2.ensures.lookup in
    let inside = read.3.0 in
    let word = ap (bit_not w64) (read.4 (omega arith) 0) ∙ sym (get_or-negation words next inside) in
    let fits : get_or (negation words) next 0 < 2 ^ 64 = omega (arith, get_or-negation words next inside) in
    record {
      left = IsRestFrom-next (negation words) c.args.start _ _ _ h.left c.loop-rest-test.true h.near (omega (arith, inside, length-negation words)) word fits;
      near = omega (arith, h.near);
    }

pub overflow_add-result : goal.overflow_add-result
overflow_add-result c =
    let found = first_left (negation c.args.words.now) c.args.start _ _ c.loop-rest.invariant.left (omega (arith, c.loop-rest-test.false)) in
    record { fits = omega (arith, found.inside, length-bits_of (negation c.args.words.now), length-negation c.args.words.now, c.requires) }

pub returns : goal.returns
returns c =
    first_zero c.args.words.now (λ k. search rules) c.args.start _
    (first_left (negation c.args.words.now) c.args.start _ _ c.loop-rest.invariant.left (omega (arith, c.loop-rest-test.false)))
