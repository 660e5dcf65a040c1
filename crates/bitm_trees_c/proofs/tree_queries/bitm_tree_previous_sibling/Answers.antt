-- What is answered is reported.
use Rattle.bitm_abi.proofs.ClaimedLemmas.{claimed}
use Rattle.bitm_trees_c.specs.Tree.{IsPreviousSibling}
use Rattle.bitm_trees_c.proofs.tree_queries.bitm_tree_previous_sibling.Goals as goal

pub returns-in-Some : goal.returns-in-Some
returns-in-Some c =
    claimed (IsPreviousSibling c.args.node) _ _ c.in-Some.ensures.1 _ c.in-Some.ensures.0 c.report.result c.args.out.now c.report.new.out _ c.report.ensures
    (record { inside = c.previous_sibling.ensures.inside; right = c.previous_sibling.ensures.answer })
