-- What is answered is reported.
use Rattle.bitm_abi.proofs.ClaimedLemmas.{claimed}
use Rattle.bitm_trees_c.specs.Trie.{IsChildBy}
use Rattle.bitm_trees_c.proofs.tries.queries.bitm_trie_child.Goals as goal

pub returns-in-Some : goal.returns-in-Some
returns-in-Some c =
    claimed (IsChildBy c.args.node c.args.label) _ _ c.in-Some.ensures.1 _ c.in-Some.ensures.0 c.report.result c.args.out.now c.report.new.out _ c.report.ensures
    (record { inside = c.child_by_label.ensures.inside; right = c.child_by_label.ensures.answer })
