-- What is answered is no code but where there is no such child, or the words are not those of a tree.
use Rattle.std.proofs.Common.{◌^◌, ◌<◌, slice_index, arith}
use Rattle.bitm_trees_c.proofs.TreeCodeLemmas.{child_code, coded}
use Rattle.bitm_trees_c.specs.Tree.{without_hints, IsChildAnswer}
use Rattle.bitm_trees_c.proofs.tree_lists.child_each.Goals as goal

pub returns : goal.returns
returns c = λ j inside.
    let node = slice_index c.args.nodes.now j in
    let short : c.args.view.now.len < 2 ^ 60 = omega (arith, c.len.ensures.len, c.len.ensures.short) in
    coded (IsChildAnswer node (slice_index c.args.ks.now j) (without_hints c.args.view.now)) _ (λ a h. child_code _ short node a h.inside) (c.child_list.ensures.each j inside)
