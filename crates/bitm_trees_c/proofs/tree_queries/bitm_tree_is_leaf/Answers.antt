-- What is answered is reported, as 0 or 1.
use Rattle.std.proofs.Common.{sym, subst}
use Rattle.louds.specs.Counted.{degrees_in}
use Rattle.louds.specs.Answers.{IsLeafOf, IsLeafWithin}
use Rattle.bitm_abi.proofs.ClaimedLemmas.{claimed}
use Rattle.bitm_trees_c.specs.Tree.{IsLeaf}
use Rattle.bitm_trees_c.proofs.tree_queries.bitm_tree_is_leaf.Goals as goal

pub returns-in-Some : goal.returns-in-Some
returns-in-Some c =
    let parts = c.in-Some.view in
    claimed (IsLeaf c.args.node) _ _ c.in-Some.ensures.1 _ c.in-Some.ensures.0 c.report.result c.args.out.now c.report.new.out _ c.report.ensures
    (record {
      truth = c.as_number.ensures.truth;
      inside = subst (IsLeafWithin parts.len c.args.node) (sym c.as_number.ensures.answer) c.is_leaf.ensures.inside;
      right = λ h. subst (IsLeafOf (degrees_in parts.len parts.lists) c.args.node) (sym c.as_number.ensures.answer) (c.is_leaf.ensures.answer h);
    })
