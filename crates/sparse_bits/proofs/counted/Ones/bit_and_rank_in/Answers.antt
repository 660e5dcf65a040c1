-- A bit is 1 exactly at a position that is kept.
use Rattle.std.proofs.Common.{ℕ, ◌<◌, nat_eq, sym, ap, ◌∙◌, subst, arith}
use Rattle.sparse_bits.proofs.lemmas.LookLemmas.{searched_positions}
use Rattle.sparse_bits.proofs.lemmas.PositionLemmas.{bit_none, bit_some, bits_count, rank_none, rank_some}
use Rattle.sparse_bits.proofs.counted.Ones.bit_and_rank_in.Goals as goal

pub returns-then-position-len-clause-bit : goal.returns-then-position-len-clause-bit
returns-then-position-len-clause-bit g c = λ xs h. omega (arith, bits_count c.args.self.now.len xs h.positions, c.len.ensures, c.if-position-len.true)

pub returns-in-Found-get-clause-bit : goal.returns-in-Found-get-clause-bit
returns-in-Found-get-clause-bit g c = λ xs h.
    let n = c.args.self.now.len in
    let inside : c.args.position < n = omega (arith, c.len.ensures, c.if-position-len.false) in
    let reach = c.in-Found.ensures.answer xs h.holds in
    let held = subst (λ p. g.P.Items.holds xs p) (sym (searched_positions _ _ c.in-Found.ensures.counted)) h.holds in
    let item = c.in-Found-get.ensures.answer xs held in (
      omega (arith, bits_count n xs h.positions, inside),
      ap (λ (x : ℕ). nat_eq x c.args.position) item.1 ∙ bit_some n xs h.positions c.args.position c.in-Found.rank (omega (arith, inside)) reach,
      sym (rank_some n xs h.positions c.args.position c.in-Found.rank (omega (arith, inside)) reach),
    )

pub returns-in-Absent-clause-bit : goal.returns-in-Absent-clause-bit
returns-in-Absent-clause-bit g c = λ xs h.
    let n = c.args.self.now.len in
    let inside : c.args.position < n = omega (arith, c.len.ensures, c.if-position-len.false) in
    let all = c.in-Absent.ensures.answer xs h.holds in
    let held = subst (λ p. g.P.Items.holds xs p) (sym (searched_positions _ _ c.in-Absent.ensures.counted)) h.holds in (
      omega (arith, bits_count n xs h.positions, inside),
      sym (bit_none n xs h.positions c.args.position (omega (arith, inside)) all),
      c.count.ensures.held xs held ∙ sym (rank_none n xs h.positions c.args.position (omega (arith, inside)) all),
    )
