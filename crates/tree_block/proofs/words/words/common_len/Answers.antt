-- The letters so far are all that the words share.
use Rattle.std.proofs.Common.{◌≡◌, length, sym, arith}
use Rattle.tree_block.proofs.CommonLemmas.{common_is}
use Rattle.tree_block.proofs.words.words.common_len.Goals as goal

pub returns-then-at-most-clause-shared : goal.returns-then-at-most-clause-shared
returns-then-at-most-clause-shared c =
    sym (common_is c.args.left.now c.args.right.now c.loop-at.at (omega arith) (omega arith) c.loop-at.invariant.same
    (λ a b e. absurd (omega arith)))

pub returns-then-left-at-clause-shared : goal.returns-then-left-at-clause-shared
returns-then-left-at-clause-shared c =
    sym (common_is c.args.left.now c.args.right.now c.loop-at.at (omega arith) (omega arith) c.loop-at.invariant.same
    (λ a b e. c.if-left-at.true e))

pub returns-clause-shared : goal.returns-clause-shared
returns-clause-shared c =
    let all : c.loop-at.at ≡ length c.args.left.now = omega (arith, c.loop-at-test.false, c.loop-at.auto.at-end) in
    sym (common_is c.args.left.now c.args.right.now (length c.args.left.now) (omega arith) (omega (arith, all, c.loop-at.invariant.fits))
    (λ t less. c.loop-at.invariant.same t (omega (arith, less, all))) (λ a b e. absurd (omega (arith, a))))
