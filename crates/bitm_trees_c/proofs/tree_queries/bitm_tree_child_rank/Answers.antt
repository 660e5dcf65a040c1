-- What is answered is reported.
use Rattle.bitm_abi.proofs.ClaimedLemmas.{claimed}
use Rattle.bitm_trees_c.specs.Tree.{IsChildRank}
use Rattle.bitm_trees_c.proofs.tree_queries.bitm_tree_child_rank.Goals as goal

pub returns-in-Some : goal.returns-in-Some
returns-in-Some c =
    claimed (IsChildRank c.args.node) _ _ c.in-Some.ensures.1 _ c.in-Some.ensures.0 c.report.result c.args.out.now c.report.new.out _ c.report.ensures
    (record { inside = c.child_rank.ensures.inside; right = c.child_rank.ensures.answer })
