-- The one that is picked has the rank's ones before it, and is one more.
use Rattle.std.proofs.Common.{◌<◌, ◌^◌, arith}
use Rattle.std.proofs.lemmas.Nat.{ones-le}
use Rattle.broadword.proofs.lemmas.InWordLemmas.{rank_in_word, count_ones-picked, count_ones-picked_too}
use Rattle.bitm_select.proofs.search.record.select_in_word.Goals as goal

pub overflow_cast-rank : goal.overflow_cast-rank
overflow_cast-rank c =
    let fits : c.args.word < 2 ^ 64 = omega arith in
    omega (arith, ones-le 64 c.args.word fits, c.requires)

pub select64-requires : goal.select64-requires
select64-requires c =
    let fits : c.args.word < 2 ^ 64 = omega arith in
    rank_in_word c.args.word c.args.rank fits c.requires

pub returns-clause-before : goal.returns-clause-before
returns-clause-before c = count_ones-picked c.args.word c.args.rank c.select64.result c.select64.ensures.picked

pub returns-clause-after : goal.returns-clause-after
returns-clause-after c = count_ones-picked_too c.args.word c.args.rank c.select64.result c.select64.ensures.picked
