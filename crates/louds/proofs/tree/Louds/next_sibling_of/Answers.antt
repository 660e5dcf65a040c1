-- The node is the last child, by its number.
use Rattle.std.proofs.Common.{◌≡◌, ℕ, ap, subst}
use Rattle.louds.specs.Tree.{IsLastChild}
use Rattle.louds.proofs.tree.Louds.next_sibling_of.Goals as goal

pub returns-in-None : goal.returns-in-None
returns-in-None g c =
    let same : c.node.inside.number ≡ c.args.node.number = ap (λ n. n.number) c.node.view_is in
    subst (λ (v : ℕ). IsLastChild c.args.self.now.degrees v) same c.in-None.ensures
