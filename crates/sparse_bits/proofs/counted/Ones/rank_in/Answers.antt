-- A rank is the number of positions that are less.
use Rattle.std.proofs.Common.{◌≡◌, ◌≤◌, ℕ, true, length, sym, subst, arith}
use Rattle.bitm_tables.specs.declared.answer.Answer.{Answer}
use Rattle.bitm_tables.specs.declared.answer.Answer.TheVariants.{Found}
use Rattle.tables_view.specs.Ranks.{IsRanked}
use Rattle.sparse_bits.specs.Positions.{bits_at}
use Rattle.sparse_bits.proofs.lemmas.LookLemmas.{searched_positions}
use Rattle.sparse_bits.proofs.lemmas.PositionLemmas.{bits_count}
use Rattle.sparse_bits.proofs.lemmas.QueryLemmas.{few_before, ranked_at, ranked_past}
use Rattle.sparse_bits.proofs.counted.Ones.rank_in.Goals as goal

pub returns-then-index-len-clause-counts : goal.returns-then-index-len-clause-counts
returns-then-index-len-clause-counts g c = λ xs h. omega (arith, bits_count c.args.self.now.len xs h.positions, c.len.ensures, c.if-index-len.true)

pub returns-in-Found-clause-counts : goal.returns-in-Found-clause-counts
returns-in-Found-clause-counts g c = λ xs h.
    let n = c.args.self.now.len in
    let reach = c.in-Found.ensures.answer xs h.holds in
    let few : c.in-Found.count ≤ c.args.index = few_before n xs h.positions c.args.index c.in-Found.count (omega (arith, reach.inside)) reach.before in
    subst (λ (a : Answer ℕ). IsRanked (bits_at n 0 xs) true c.args.index a) (sym (c.count_within.ensures.count few))
    (ranked_at n xs h.positions c.args.index c.in-Found.count (omega (arith, c.len.ensures, c.if-index-len.false)) reach)

pub returns-in-Absent-clause-counts : goal.returns-in-Absent-clause-counts
returns-in-Absent-clause-counts g c = λ xs h.
    let n = c.args.self.now.len in
    let all = c.in-Absent.ensures.answer xs h.holds in
    let held = subst (λ p. g.P.Items.holds xs p) (sym (searched_positions _ _ c.in-Absent.ensures.counted)) h.holds in
    let count : c.count.result ≡ length xs = c.count.ensures.held xs held in
    let few : c.count.result ≤ c.args.index = omega (arith, count, few_before n xs h.positions c.args.index (length xs) (omega arith) (λ j l. all j 0 l)) in
    subst (λ (a : Answer ℕ). IsRanked (bits_at n 0 xs) true c.args.index a) (sym (c.count_within-in-Absent.ensures.count few))
    (subst (λ (k : ℕ). IsRanked (bits_at n 0 xs) true c.args.index (Found k)) (sym count)
    (ranked_past n xs h.positions c.args.index (omega (arith, c.len.ensures, c.if-index-len.false)) all))
