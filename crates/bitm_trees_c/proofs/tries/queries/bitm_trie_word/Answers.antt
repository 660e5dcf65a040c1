-- What is answered is reported.
use Rattle.bitm_abi.proofs.ClaimedLemmas.{claimed}
use Rattle.bitm_trees_c.specs.Trie.{IsWordAnswer}
use Rattle.bitm_trees_c.proofs.tries.queries.bitm_trie_word.Goals as goal

pub returns-in-Some-clause-answer : goal.returns-in-Some-clause-answer
returns-in-Some-clause-answer c =
    claimed (IsWordAnswer c.args.node c.args.out.now c.word.new.out) _ _ c.in-Some.ensures.1 _ c.in-Some.ensures.0 c.report.result c.args.word_len.now c.report.new.out _ c.report.ensures
    (record { inside = c.word.ensures.inside; right = c.word.ensures.answer })
