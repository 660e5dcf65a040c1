-- The view lends its own tree.
use Rattle.std.proofs.Common.{ap}
use Rattle.louds.specs.Answers.{IsPreviousSiblingOf}
use Rattle.tree_block.specs.Block.{TreeParts}
use Rattle.tree_block.proofs.ViewLemmas.{answered}
use Rattle.tree_block.proofs.tree.LoudsView.previous_sibling.Goals as goal

pub returns-clause-answer : goal.returns-clause-answer
returns-clause-answer c =
    answered (λ d. IsPreviousSiblingOf d c.args.node c.previous_sibling_by.result) _ _ c.args.self.now _ _ (ap (λ (v : TreeParts). v.len) c.self.view_is)
    c.probe.ensures.lists c.previous_sibling_by.ensures.answer c.finder.ensures
