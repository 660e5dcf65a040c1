-- What is answered is no code but where there is no such node, or the words are not those of a tree.
use Rattle.std.proofs.Common.{◌^◌, ◌<◌, slice_index, sym, subst, arith}
use Rattle.bitm_view.specs.Queries.{selected_by}
use Rattle.bitm_trees_c.proofs.TreeCodeLemmas.{coded, degree_code, parent_code}
use Rattle.bitm_trees_c.specs.Tree.{without_hints, IsDegree, IsParent, IsTreeAnswer}
use Rattle.bitm_trees_c.specs.declared.tree_lists.Asked.{Asked}
use Rattle.bitm_trees_c.proofs.tree_lists.ask_each.Goals as goal

pub returns-in-Parent : goal.returns-in-Parent
returns-in-Parent c = λ j inside.
    let node = slice_index c.args.nodes.now j in
    let short : c.args.view.now.len < 2 ^ 60 = omega (arith, c.len.ensures.len, c.len.ensures.short) in
    subst (λ (asked : Asked). IsTreeAnswer asked node (without_hints c.args.view.now) (selected_by (slice_index c.parent_list.new.out j))) (sym c.in-Parent.is)
    (coded (IsParent node (without_hints c.args.view.now)) _ (λ a h. parent_code _ short node a h.inside) (c.parent_list.ensures.each j inside))

pub returns-in-Degree : goal.returns-in-Degree
returns-in-Degree c = λ j inside.
    let node = slice_index c.args.nodes.now j in
    let short : c.args.view.now.len < 2 ^ 60 = omega (arith, c.len.ensures.len, c.len.ensures.short) in
    subst (λ (asked : Asked). IsTreeAnswer asked node (without_hints c.args.view.now) (selected_by (slice_index c.degree_list.new.out j))) (sym c.in-Degree.is)
    (coded (IsDegree node (without_hints c.args.view.now)) _ (λ a h. degree_code _ short node a h.inside) (c.degree_list.ensures.each j inside))
