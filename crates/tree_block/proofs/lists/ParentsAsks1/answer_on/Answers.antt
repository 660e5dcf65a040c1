-- The position that is reported is that of the node's own 1 bit.
use Rattle.louds.proofs.lemmas.HeldLemmas.{has_one, one_is}
use Rattle.tree_block.proofs.lists.ParentsAsks1.answer_on.Goals as goal

pub returns-clause-holds : goal.returns-clause-holds
returns-clause-holds g c = λ claimed.
    record {
      inside = c.parent_at.ensures.inside;
      right = λ h.
          c.parent_at.ensures.answer _ h.louds.held.count
          (one_is _ _ _ h.louds.held c.args.node c.args.code c.if-node-len.false
          (claimed.some h.louds.indexed.tables (has_one _ _ _ h.louds.held c.args.node c.if-node-len.false)));
    }
