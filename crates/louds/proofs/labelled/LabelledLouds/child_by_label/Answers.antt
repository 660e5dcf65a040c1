-- The source holds the tree, and its labels are those of the tree.
use Rattle.std.proofs.Common.{◌≡◌, ℕ, List, sym, ap, ◌∙◌, subst}
use Rattle.louds.specs.Counted.{degrees_in, IsLouds}
use Rattle.louds.specs.Labels.{numbers_of, IsChildWith, Rise}
use Rattle.louds.proofs.labelled.LabelledLouds.child_by_label.Goals as goal

pub returns-in-Found-clause-child : goal.returns-in-Found-clause-child
returns-in-Found-clause-child g c =
    let t = c.self.inside in
    let n = c.len.result in
    let lists = c.parts-probe.result.1.lists in
    let seen = c.probe-labels.result in
    let count = c.len.ensures.count in
    let degrees : degrees_in n lists ≡ t.tree.degrees = ap (λ k. degrees_in k lists) count ∙ c.parts-probe.ensures.degrees in
    let labels : numbers_of seen.words seen.width n ≡ t.labels.items =
    ap (λ k. numbers_of seen.words seen.width k) (count ∙ sym c.self.invariant.count) ∙ c.probe-labels.ensures.items in
    let P : List ℕ → List ℕ → Type 0 = λ d ls. Rise d ls → IsChildWith d ls c.args.node c.args.label c.in-Found.child in
    let held = subst (λ (k : ℕ). IsLouds k lists) (sym count) c.parts-probe.ensures.tree in
    let given : P t.tree.degrees t.labels.items =
    subst (λ (ls : List ℕ). P t.tree.degrees ls) labels
    (subst (λ (d : List ℕ). P d (numbers_of seen.words seen.width n)) degrees (c.in-Found.ensures.answer held c.parts-probe.ensures.selects)) in
    subst (λ (x : _). IsChildWith x.degrees x.labels c.args.node c.args.label c.in-Found.child) c.self.view_is (given c.self.invariant.rise)
