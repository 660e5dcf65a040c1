-- The last one of the negated words, of which none is read before the first.
use Rattle.std.proofs.Common.{rules, ℕ, ◌-◌, ◌/◌, ◌^◌, ◌<◌, get_or, bit_and, subst, arith}
use Rattle.bit_words.proofs.lemmas.FindBackLemmas.{IsRestTo, IsRestTo-start, IsRestTo-next, none_before, last_left}
use Rattle.bit_words.proofs.lemmas.ZeroLemmas.{negation, length-negation, get_or-negation, last_zero, no_zero_to}
use Rattle.bit_words.proofs.nearest.rfind_bit_zero.Goals as goal

pub loop-rest-init : goal.loop-rest-init
loop-rest-init c =
    let words = c.args.words.now in
    let q = c.args.start / 64 in
    let word = get_or-negation words q (omega (arith, c.requires.inside)) in
    let P : ℕ → Type 0 = λ w. IsRestTo (negation words) c.args.start q (bit_and w c.n_lowest_bits_1_64.result) in
    let fits : get_or (negation words) q 0 < 2 ^ 64 = omega (arith, word) in
    record {
      left = subst P word
          (IsRestTo-start (negation words) c.args.start _ (omega (arith, c.requires.inside, length-negation words)) fits c.n_lowest_bits_1_64.ensures);
      near = omega arith;
    }

pub loop-rest-preserved : goal.loop-rest-preserved
loop-rest-preserved c =
    let words = c.args.words.now in
    let h = c.loop-rest.invariant in
    let q = c.loop-rest.word_index - 1 in
    let later : 0 < c.loop-rest.word_index = omega (arith, c.if-word_index-eq0.false) in
    let word = get_or-negation words q (omega (arith, h.left.within, length-negation words)) in
    let P : ℕ → Type 0 = λ w. IsRestTo (negation words) c.args.start q w in
    let fits : get_or (negation words) q 0 < 2 ^ 64 = omega (arith, word) in
    record {
      left = subst P word (IsRestTo-next (negation words) c.args.start _ _ h.left c.loop-rest-test.true later h.near fits);
      near = omega (arith, h.near);
    }

pub returns-then-word_index-eq0 : goal.returns-then-word_index-eq0
returns-then-word_index-eq0 c =
    no_zero_to c.args.words.now (λ k. search rules) c.args.start c.requires.inside
    (none_before (negation c.args.words.now) c.args.start _ _ c.loop-rest.invariant.left c.loop-rest-test.true c.if-word_index-eq0.true)

pub returns : goal.returns
returns c =
    last_zero c.args.words.now (λ k. search rules) c.args.start _ c.requires.inside
    (last_left (negation c.args.words.now) c.args.start _ _ c.loop-rest.invariant.left (omega (arith, c.loop-rest-test.false)))
