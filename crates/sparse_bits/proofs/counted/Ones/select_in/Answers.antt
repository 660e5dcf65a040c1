-- A selection is a position that is kept.
use Rattle.std.proofs.Common.{ℕ, true, sym, subst, arith}
use Rattle.bit_lists.specs.Count.{Picks}
use Rattle.sparse_bits.specs.Positions.{bits_at}
use Rattle.sparse_bits.proofs.lemmas.LookLemmas.{same_len}
use Rattle.sparse_bits.proofs.lemmas.PositionLemmas.{ones_count, select_some}
use Rattle.sparse_bits.proofs.counted.Ones.select_in.Goals as goal

pub returns-then-one-len-clause-counts : goal.returns-then-one-len-clause-counts
returns-then-one-len-clause-counts g c = λ xs h.
    let n = c.args.self.now.len in
    let item = c.in-Found.ensures.answer xs h.holds in
    subst (λ (p : ℕ). Picks (bits_at n 0 xs) true c.args.rank p) (sym item.1) (select_some n xs h.positions c.args.rank item.0)

pub returns-else-one-len-clause-counts : goal.returns-else-one-len-clause-counts
returns-else-one-len-clause-counts g c = λ xs h.
    let item = c.in-Found.ensures.answer xs h.holds in
    absurd (omega (arith, item.1, h.positions.below c.args.rank item.0, same_len _ _ c.in-Found.ensures.counted, c.len.ensures, c.if-one-len.false))

pub returns-in-Absent-clause-counts : goal.returns-in-Absent-clause-counts
returns-in-Absent-clause-counts g c = λ xs h.
    let all = c.in-Absent.ensures.answer xs h.holds in
    omega (arith, all, ones_count c.args.self.now.len xs h.positions)
