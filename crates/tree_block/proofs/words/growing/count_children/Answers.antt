-- One parent more is counted.
use Rattle.std.proofs.Common.{◌≡◌, ℕ, length, replicate, get_or, refl, ap, ◌∙◌, arith}
use Rattle.louds.proofs.lemmas.ParentsLemmas.{counted_all, counted_more, tree_of}
use Rattle.tree_block.proofs.GrowLemmas.{none_counted}
use Rattle.tree_block.proofs.words.growing.count_children.Goals as goal

pub loop-parent-init : goal.loop-parent-init
loop-parent-init c =
    none_counted c.args.parents.now c.clear_numbers.new.numbers (c.clear_numbers.ensures ∙ ap (λ (n : ℕ). replicate n 0) c.requires.room)

pub loop-parent-preserved : goal.loop-parent-preserved
loop-parent-preserved c =
    let ps = c.args.parents.now in
    let m = c.loop-parent.parent-index in
    counted_more ps m (get_or ps m 0) c.loop-parent.degrees c.requires.parents c.loop-parent-test.true refl c.loop-parent.invariant

pub returns-clause-parents : goal.returns-clause-parents
returns-clause-parents c =
    let ps = c.args.parents.now in
    let all : c.loop-parent.parent-index ≡ length ps = omega (arith, c.loop-parent-test.false, c.loop-parent.auto.parent-index-end) in
    counted_all ps _ _ all c.loop-parent.invariant

pub returns-clause-tree : goal.returns-clause-tree
returns-clause-tree c =
    let ps = c.args.parents.now in
    let all : c.loop-parent.parent-index ≡ length ps = omega (arith, c.loop-parent-test.false, c.loop-parent.auto.parent-index-end) in
    tree_of ps c.loop-parent.degrees c.requires.parents (counted_all ps _ _ all c.loop-parent.invariant)
    (omega (arith, all, c.loop-parent.invariant.all))
