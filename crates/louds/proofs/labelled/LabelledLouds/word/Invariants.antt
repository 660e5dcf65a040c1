use Rattle.std.proofs.Common.{◌<◌, length, reverse}
use Rattle.louds.specs.Labels.{Leads}
use Rattle.louds.proofs.labelled.LabelledLouds.word.Given as goal

-- the labels so far, turned round, lead to the node
abbrev pub invariant-loop-parent : goal.invariant-loop-parent
invariant-loop-parent g l = record {
  inside : l.at < length l.self.degrees;
  down : Leads l.self.degrees l.self.labels (reverse l.word.items) l.at l.node;
}

abbrev pub decreases-loop-parent : goal.decreases-loop-parent
decreases-loop-parent g l = l.at
