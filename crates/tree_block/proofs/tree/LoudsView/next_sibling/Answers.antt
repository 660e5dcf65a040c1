-- The view lends its own tree.
use Rattle.std.proofs.Common.{ap}
use Rattle.louds.specs.Answers.{IsNextSiblingOf}
use Rattle.tree_block.specs.Block.{TreeParts}
use Rattle.tree_block.proofs.ViewLemmas.{answered}
use Rattle.tree_block.proofs.tree.LoudsView.next_sibling.Goals as goal

pub returns-clause-answer : goal.returns-clause-answer
returns-clause-answer c =
    answered (λ d. IsNextSiblingOf d c.args.node c.next_sibling_by.result) _ _ c.args.self.now _ _ (ap (λ (v : TreeParts). v.len) c.self.view_is)
    c.probe.ensures.lists c.next_sibling_by.ensures.answer c.finder.ensures
