-- What is answered is reported.
use Rattle.bitm_abi.proofs.ClaimedLemmas.{claimed}
use Rattle.bitm_trees_c.specs.Trie.{IsNodeAt}
use Rattle.bitm_trees_c.proofs.tries.words.bitm_trie_find.Goals as goal

pub returns-in-Some : goal.returns-in-Some
returns-in-Some c =
    claimed (IsNodeAt c.args.word.now) _ _ c.in-Some.ensures.1 _ c.in-Some.ensures.0 c.report.result c.args.out.now c.report.new.out _ c.report.ensures
    (record { inside = c.find.ensures.inside; right = c.find.ensures.answer })
