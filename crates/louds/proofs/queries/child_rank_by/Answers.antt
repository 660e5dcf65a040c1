-- The rank of a child is how far its one stands behind the zero before the ones of its parent.
use Rattle.std.proofs.Common.{◌≡◌, ◌+◌, ◌-◌, ◌^◌, ◌%◌, ℕ, subst, arith}
use Rattle.louds.specs.Counted.{degrees_in}
use Rattle.louds.specs.Tree.{IsChild}
use Rattle.louds.proofs.lemmas.SiblingLemmas.{rank_is}
use Rattle.louds.proofs.queries.child_rank_by.Goals as goal

pub returns-then-k-len-clause-answer : goal.returns-then-k-len-clause-answer
returns-then-k-len-clause-answer g c = λ h f.
    let rank =
    rank_is (g.F.Finds.finds c.args.finder.now) c.args.len _ _ c.one_by.ensures.reads.same h f c.args.node c.in-Some.position c.in-Found.parent
    c.in-Some-zero_by.start (omega (arith, c.if-node-eq0.false)) (c.in-Some.ensures.position h f) (c.in-Found.ensures.answer _ h.held.count (c.in-Some.ensures.position h f)) c.in-Some-zero_by.ensures.position in
    let same : rank.0 ≡ (c.in-Some.position + (2 ^ 64 - (c.in-Some-zero_by.start + 1))) % 2 ^ 64 = omega (arith, rank.2, c.in-Some.ensures.small) in (
      c.in-Found.parent,
      subst (λ (k : ℕ). IsChild (degrees_in c.args.len (g.T.TableSource.lists c.args.source.now)) c.in-Found.parent k c.args.node) same rank.1,
    )

pub returns-else-k-len-clause-answer : goal.returns-else-k-len-clause-answer
returns-else-k-len-clause-answer g c = λ h f.
    let rank =
    rank_is (g.F.Finds.finds c.args.finder.now) c.args.len _ _ c.one_by.ensures.reads.same h f c.args.node c.in-Some.position c.in-Found.parent
    c.in-Some-zero_by.start (omega (arith, c.if-node-eq0.false)) (c.in-Some.ensures.position h f) (c.in-Found.ensures.answer _ h.held.count (c.in-Some.ensures.position h f)) c.in-Some-zero_by.ensures.position in
    omega (arith, rank.2, rank.1.number, c.if-k-len.false, c.if-node-len.false, c.in-Some.ensures.small)
