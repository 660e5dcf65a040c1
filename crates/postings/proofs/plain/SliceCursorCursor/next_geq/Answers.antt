use Rattle.std.proofs.Common.{◌≡◌, ◌<◌, ◌≤◌, ℕ, List, get_or, drop, ap, subst, sym, arith}
use Rattle.postings.proofs.NextLemmas.{moved_some, moved_none}
use Rattle.postings.specs.Next.{CursorValue, IsNextAtLeast}
use Rattle.postings.proofs.plain.SliceCursorCursor.next_geq.Goals as goal
use Rattle.postings.proofs.plain.SliceCursorCursor.next_geq.Goals.{then-at-self, else-at-self}

pub returns-clause-next : goal.returns-clause-next
returns-clause-next c =
    let xs = c.self.inside.numbers.now in
    let to = c.gallop-at.result in
    let less : (j : ℕ) → c.self.inside.at ≤ j → j < to → get_or xs j 0 < c.args.v = c.gallop-at.ensures.less in
    let was : drop c.self.inside.at xs ≡ c.args.self.now.left = ap (λ (s : CursorValue). s.left) c.self.view_is in
    subst (λ (l : List ℕ). IsNextAtLeast l c.args.v c.if-at-self.result (drop to xs)) was
    (elim c.if-at-self.branch [
      | then-at-self w ↦ subst (λ o. IsNextAtLeast (drop c.self.inside.at xs) c.args.v o (drop to xs)) (sym w.result-is)
          (moved_some xs c.self.inside.at to c.args.v c.self.invariant.1 c.gallop-at.ensures.from less (omega (arith, w.if-at-self.true)) (c.gallop-at.ensures.at_least to (omega arith) (omega (arith, w.if-at-self.true))))
      | else-at-self w ↦ subst (λ o. IsNextAtLeast (drop c.self.inside.at xs) c.args.v o (drop to xs)) (sym w.result-is)
          (moved_none xs c.self.inside.at to c.args.v c.self.invariant.1 c.gallop-at.ensures.from less (omega (arith, w.if-at-self.false, c.gallop-at.ensures.to)))
    ])
