-- One label more is less than the next one.
use Rattle.std.proofs.Common.{refl, arith, rules}
use Rattle.tree_block.proofs.LabelLemmas.{two_labels}
use Rattle.tree_block.proofs.trie.given.rise_between.Goals as goal

pub returns-then-labels-node : goal.returns-then-labels-node
returns-then-labels-node c = (
  search rules,
  λ rise.
      let node = c.loop-node.node in
      let two = two_labels c.args.labels.now node (omega (arith, c.requires.some)) in
      absurd (omega (arith, two.0, two.1, rise node (omega arith) (omega (arith, c.if-node-past.true)), c.if-labels-node.true)),
)

pub returns : goal.returns
returns c = (
  (λ _ v from to. c.loop-node.invariant v from (omega (arith, to, c.loop-node-test.false)) to),
  (λ _. refl),
)
