use Rattle.std.proofs.Common.{◌≡◌, ◌^◌, ◌-◌, count_ones, sum_by, sym, ◌∙◌, arith, rules, tests}
use Rattle.std.proofs.lemmas.Iterator.{YieldsList-from_slice}
use Rattle.std.proofs.lemmas.Iterator.Adapters.{fits_from_length, at_most_from_yields_List}
use Rattle.bit_lists.proofs.lemmas.CountLemmas.{ones_of-bits_of}
use Rattle.broadword.proofs.counting.count_bit_ones.Goals as goal

pub sum-requires-clause-fits : goal.sum-requires-clause-fits
sum-requires-clause-fits c =
    fits_from_length _ _ (2 ^ 58 - 1) _ (at_most_from_yields_List (YieldsList-from_slice c.args.words.now cc) (omega arith)) c.map.ensures.closure (omega arith)
    (λ x r q k. search (rules, tests))

pub returns : goal.returns
returns c =
    let e : c.sum.result ≡ sum_by count_ones c.args.words.now = search rules in
    e ∙ sym (ones_of-bits_of c.args.words.now (λ k. search rules))
