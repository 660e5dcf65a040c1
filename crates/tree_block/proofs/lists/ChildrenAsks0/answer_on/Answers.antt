-- The position that is reported is that of the 0 bit before the node's 1 bits.
use Rattle.std.proofs.Common.{◌≤◌, arith}
use Rattle.louds.proofs.lemmas.HeldLemmas.{has_zero, zero_is}
use Rattle.tree_block.proofs.lists.ChildrenAsks0.answer_on.Goals as goal

pub returns-clause-holds : goal.returns-clause-holds
returns-clause-holds g c = λ claimed.
    record {
      inside = c.child_after_by.ensures.inside;
      right = λ h.
          let within : c.args.node ≤ c.args.len = omega (arith, c.if-node-len.false) in
          c.child_after_by.ensures.answer h.louds tt
          (zero_is _ _ _ h.louds.held c.args.node c.args.code within (claimed.some h.louds.indexed.tables (has_zero _ _ _ h.louds.held c.args.node within)));
    }
