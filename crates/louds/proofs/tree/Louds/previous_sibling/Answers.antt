-- The degrees that the source holds are those of the tree, which has the node.
use Rattle.std.proofs.Common.{ℕ, ap, sym, ◌∙◌, subst}
use Rattle.louds.specs.Counted.{degrees_in, IsLouds}
use Rattle.louds.specs.Tree.{IsFirstChild}
use Rattle.louds.proofs.lemmas.SiblingLemmas.{absent_inside}
use Rattle.louds.proofs.tree.Louds.previous_sibling.Goals as goal

pub returns-in-Absent : goal.returns-in-Absent
returns-in-Absent g c =
    let lists = c.parts-probe.result.1.lists in
    absent_inside (λ d. IsFirstChild d c.args.node) _ _
    (ap (λ n. degrees_in n lists) c.len.ensures.count ∙ c.parts-probe.ensures.degrees)
    c.args.node c.requires
    (c.in-Absent.ensures.answer (subst (λ (n : ℕ). IsLouds n lists) (sym c.len.ensures.count) c.parts-probe.ensures.tree) c.parts-probe.ensures.selects)
