-- What is left of the current word, and nothing before it, while the words are searched.
use Rattle.std.proofs.Common.{rules, ◌+◌, ◌/◌, ◌^◌, ◌<◌, get_or, arith}
use Rattle.bit_words.proofs.lemmas.FindLemmas.{IsRestFrom-start, IsRestFrom-next, none_left, none_from, first_left}
use Rattle.bit_words.proofs.finding.find_bit_one.Goals as goal

pub returns-in_err-rest : goal.returns-in_err-rest
returns-in_err-rest c =
    rw c.from_residual.ensures
    (none_from c.args.words.now c.args.start c.in_err-rest.ensures.lookup.3)

pub loop-rest-init : goal.loop-rest-init
loop-rest-init c =
    let word = c.in_ok-rest.ensures.lookup in
    let fits : get_or c.args.words.now (c.args.start / 64) 0 < 2 ^ 64 = search rules in
    record {
      left = IsRestFrom-start _ c.args.start _ _ word.3.0 (word.4 (omega arith) 0) fits c.n_lowest_bits.ensures;
      near = omega arith;
    }

pub returns-in_err-rest-2 : goal.returns-in_err-rest-2
returns-in_err-rest-2 c =
    rw c.from_residual-in_err-rest-2.ensures
    (none_left c.args.words.now c.args.start _ _ c.loop-rest.invariant.left c.loop-rest-test.true c.in_err-rest-2.ensures.lookup.3)

pub loop-rest-preserved : goal.loop-rest-preserved
loop-rest-preserved c =
    let h = c.loop-rest.invariant in
    let word = c.in_ok-rest-2.ensures.lookup in
    let fits : get_or c.args.words.now (c.loop-rest.word_index + 1) 0 < 2 ^ 64 = search rules in
    record {
      left = IsRestFrom-next _ c.args.start _ _ _ h.left c.loop-rest-test.true h.near word.3.0 (word.4 (omega arith) 0) fits;
      near = omega arith;
    }

pub returns : goal.returns
returns c = first_left c.args.words.now c.args.start _ _ c.loop-rest.invariant.left (omega arith)
