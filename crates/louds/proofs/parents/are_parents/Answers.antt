-- A parent that is not before its child, or less than the one before, is that of no tree.
use Rattle.std.proofs.Common.{◌≡◌, ◌+◌, ◌-◌, get_or, ap, arith, ⊎_elim}
use Rattle.std.proofs.lemmas.Bool.{cases_eq}
use Rattle.louds.proofs.parents.are_parents.Goals as goal
use Rattle.louds.proofs.parents.are_parents.Goals.{then-parent-last-via-then-parent-last, then-parent-last-via-else-parent-last+then-i-parent}

pub returns-then-parent-last : goal.returns-then-parent-last
returns-then-parent-last c =
    let ps = c.args.parents.now in
    let i = c.loop-i.i in (
      (λ false_is. absurd (let e = false_is in cc)),
      (λ are.
          elim c.then-parent-last.branch [
            | then-parent-last-via-then-parent-last w ↦
                ⊎_elim
                (λ none. absurd (omega (arith, w.if-parent-last.true, c.loop-i.invariant.least none)))
                (λ some.
                let at : i - 1 + 1 ≡ i = omega arith in
                let up = are.rising (i - 1) (omega (arith, at, c.loop-i-test.true)) in
                absurd (omega (arith, w.if-parent-last.true, c.loop-i.invariant.last (i - 1) at, up, ap (λ k. get_or ps k 0) at)))
                (cases_eq i 0)
            | then-parent-last-via-else-parent-last+then-i-parent w ↦
                absurd (omega (arith, w.if-i-parent.true, are.before i (omega (arith, c.loop-i-test.true))))
          ]),
    )
