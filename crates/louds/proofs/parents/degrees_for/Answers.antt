-- One parent more is counted.
use Rattle.std.proofs.Common.{◌≡◌, ◌+◌, ◌<◌, ℕ, length, get_or, refl, sym, ◌∙◌, arith, set, subst}
use Rattle.std.proofs.lemmas.Grind.{get_or_default_zero}
use Rattle.louds.proofs.lemmas.ParentsLemmas.{IsCounted, counted_all, counted_more, tree_of}
use Rattle.louds.proofs.parents.degrees_for.Goals as goal

pub loop-parent-preserved : goal.loop-parent-preserved
loop-parent-preserved c =
    let ps = c.args.parents.now in
    let m = c.loop-parent.parent-index in
    let p = get_or ps m 0 in
    let more = counted_more ps m p c.loop-parent.degrees.items c.requires.parents (omega (arith, c.loop-parent-test.true)) refl c.loop-parent.invariant in
    let inside : p < length c.loop-parent.degrees.items =
    omega (arith, c.loop-parent.invariant.len, c.requires.parents.before m c.loop-parent-test.true, c.loop-parent-test.true) in
    let value : get_or c.loop-parent.degrees.items p 0 ≡ c.index_mut.result.now =
    sym (get_or_default_zero _ p _ inside) ∙ sym c.index_mut.ensures.value in
    subst (λ (x : ℕ). IsCounted ps (m + 1) (set c.loop-parent.degrees.items p (x + 1))) value more

pub returns-clause-tree : goal.returns-clause-tree
returns-clause-tree c =
    let ps = c.args.parents.now in
    let all : c.loop-parent.parent-index ≡ length ps = omega (arith, c.loop-parent-test.false, c.loop-parent.auto.parent-index-end) in
    tree_of ps c.loop-parent.degrees.items c.requires.parents (counted_all ps _ _ all c.loop-parent.invariant)
    (omega (arith, all, c.loop-parent.invariant.all))
