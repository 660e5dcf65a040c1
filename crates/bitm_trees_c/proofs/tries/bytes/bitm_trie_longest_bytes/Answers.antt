-- What is answered is reported.
use Rattle.bitm_abi.proofs.ClaimedLemmas.{claimed}
use Rattle.bitm_trees_c.specs.Trie.{IsLongest}
use Rattle.bitm_trees_c.proofs.tries.bytes.bitm_trie_longest_bytes.Goals as goal

pub returns-in-Some : goal.returns-in-Some
returns-in-Some c =
    claimed (IsLongest c.args.word.now) _ _ c.in-Some.ensures.1 _ c.in-Some.ensures.0 c.report_both.result (c.args.node.now, c.args.matched.now) (c.report_both.new.first, c.report_both.new.second) _ c.report_both.ensures
    (record { inside = c.longest.ensures.inside; right = c.longest.ensures.answer })
