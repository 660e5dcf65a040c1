-- The next number comes, and those that are kept are sorted.
use Rattle.std.proofs.Common.{◌≡◌, ℕ, ◌-◌, ◌^◌, ◌<◌, ◌≤◌, ◌⊎◌, List, length, take, drop, slice_range, All, Contains, sym, subst, arith, ⊎_elim}
use Rattle.std.proofs.lemmas.List.Elements.{All-contains, All-drop, All-take, All-weaker}
use Rattle.std.proofs.lemmas.List.Sorted.{All-permutation}
use Rattle.matrix_levels.proofs.lemmas.CountLemmas.{length-range}
use Rattle.matrix_block.specs.Block.{items_in, HoldsMatrix, MatrixParts}
use Rattle.matrix_block.specs.RangeLists.{tallies_in, AreNarrow, AreTallyCounts}
use Rattle.matrix_block.proofs.FrequentLemmas.{fit-counts, fit-numbers, fit-pairs, kept-all, kept-more, written-more, AreFit}
use Rattle.matrix_block.proofs.matrix.MatrixView.top_k.Goals as goal
use Rattle.matrix_block.proofs.matrix.MatrixView.top_k.Goals.{At-loop-less}

narrow : (parts : MatrixParts) (s e : ℕ) → HoldsMatrix parts → All (λ x. x < 2 ^ parts.levels.width) (slice_range (items_in parts) s e)
narrow parts s e h =
    let Small : ℕ → Type 0 = λ x. x < 2 ^ parts.levels.width in
    All-take Small (e - s) _ (All-drop Small s (items_in parts) h.numbers.fit)

-- numbers and counts that are written, from what is true of the pairs
written : (old old_counts now now_counts new new_counts : List ℕ) (w most k end : ℕ) → length now_counts ≡ length now → length new_counts ≡ length new
    → length new ≡ length now → k ≤ end → end ≤ length new
    → AreNarrow w k old now → AreTallyCounts most k old_counts now_counts → drop end new ≡ drop end now → drop end new_counts ≡ drop end now_counts
    → All (AreFit (2 ^ w) most) (tallies_in new new_counts end) → AreNarrow w end old new × AreTallyCounts most end old_counts new_counts
written old old_counts now now_counts new new_counts w most k end same same2 len more room narrow counts behind counts_behind all =
    let each = fit-counts new new_counts (2 ^ w) most end same2 room all in (
      record {
        written = written-more old now new k end narrow.written more room len behind;
        fit = fit-numbers new new_counts (2 ^ w) most end same2 room all;
      },
      record {
        written = written-more old_counts now_counts new_counts k end counts.written more (omega (arith, room, same2)) (omega (arith, same, same2, len)) counts_behind;
        some = All-weaker (λ c. (1 ≤ c) × (c ≤ most)) (λ c. 1 ≤ c) (λ c h. h.0) (take end new_counts) each;
        few = All-weaker (λ c. (1 ≤ c) × (c ≤ most)) (λ c. c ≤ most) (λ c h. h.1) (take end new_counts) each;
      },
    )

same : (c : At-loop-less) → length c.loop-less.counts ≡ length c.loop-less.numbers
same c = let i = c.loop-less.invariant in omega (arith, i.numbers.written.len, i.counts.written.len, c.requires.room)

inside : (c : At-loop-less) → c.loop-less.kept ≤ length c.loop-less.numbers
inside c = let i = c.loop-less.invariant in omega (arith, i.numbers.written.len, i.numbers.written.room)

fit : (c : At-loop-less) → All (AreFit (2 ^ c.args.self.now.levels.width) (c.args.end - c.args.start)) (tallies_in c.loop-less.numbers c.loop-less.counts c.loop-less.kept)
fit c =
    let i = c.loop-less.invariant in
    fit-pairs c.loop-less.numbers c.loop-less.counts (2 ^ c.args.self.now.levels.width) (c.args.end - c.args.start) c.loop-less.kept (same c) (inside c)
    i.numbers.fit i.counts.some i.counts.few

pub loop-less-preserved : goal.loop-less-preserved
loop-less-preserved c =
    let a = (goal.at.loop-less-preserved c).At-loop-less in
    let i = c.loop-less.invariant in
    let now = c.loop-less.numbers in
    let counts = c.loop-less.counts in
    let k = c.loop-less.kept in
    let x = c.in-Found.tally.0 in
    let n = c.in-Found.tally.1 in
    let within = c.in-Found.ensures.inside in
    let end = c.keep_tally-kept.result in
    let new = c.keep_tally-kept.new.numbers in
    let new_counts = c.keep_tally-kept.new.counts in
    let put = c.keep_tally-kept.ensures in
    let w = c.args.self.now.levels.width in
    let most = c.args.end - c.args.start in
    let P : ℕ × ℕ → Type 0 = AreFit (2 ^ w) most in
    let all : All P (tallies_in new new_counts end) =
    All-weaker (λ p. Contains (tallies_in now counts k) p ⊎ (p ≡ (x, n))) P
    (λ p. ⊎_elim (λ old. All-contains P (tallies_in now counts k) p (fit a) old) (λ is. subst P (sym is) (within.2, (within.3, within.4))))
    (tallies_in new new_counts end) put.each in
    let same2 : length new_counts ≡ length new = omega (arith, same a, put.numbers_len, put.counts_len) in
    let both = written c.args.numbers.now c.args.counts.now now counts new new_counts w most k end (same a) same2 put.numbers_len put.more put.bound
    i.numbers i.counts put.numbers_behind put.counts_behind all in
    record {
      numbers = both.0;
      counts = both.1;
      heap = put.heap;
      right = λ h.
          let found = c.in-Found.ensures.answer h in
          kept-more (slice_range (items_in c.args.self.now) c.args.start c.args.end) (2 ^ w) c.loop-less.less k now counts (i.right h) x n end new new_counts
          (narrow c.args.self.now c.args.start c.args.end h) found.2 found.3 put.numbers_len put.best;
    }

pub returns-clause-inside : goal.returns-clause-inside
returns-clause-inside c =
    let a = (goal.at.returns-clause-inside c).At-loop-less in
    let i = c.loop-less.invariant in
    let k = c.loop-less.kept in
    let sort = c.sort_kept.ensures in
    let P : ℕ × ℕ → Type 0 = AreFit (2 ^ c.args.self.now.levels.width) (c.args.end - c.args.start) in
    let all = All-permutation P _ _ sort.moved (fit a) in
    let same2 : length c.sort_kept.new.counts ≡ length c.sort_kept.new.numbers = omega (arith, same a, sort.numbers_len, sort.counts_len) in
    let both = written c.args.numbers.now c.args.counts.now c.loop-less.numbers c.loop-less.counts c.sort_kept.new.numbers c.sort_kept.new.counts
    c.args.self.now.levels.width (c.args.end - c.args.start) k k (same a) same2 sort.numbers_len (omega arith) (omega (arith, inside a, sort.numbers_len))
    i.numbers i.counts sort.numbers_behind sort.counts_behind all in (
      omega (arith, c.if-end-start.false),
      omega (arith, c.if-end-len.false, c.len.ensures),
      both.0,
      both.1,
    )

pub returns-clause-answer : goal.returns-clause-answer
returns-clause-answer c = λ h.
    let a = (goal.at.returns-clause-answer c).At-loop-less in
    let i = c.loop-less.invariant in
    let items = items_in c.args.self.now in
    let s = c.args.start in
    let e = c.args.end in
    let sort = c.sort_kept.ensures in
    let order : s ≤ e = omega (arith, c.if-end-start.false) in
    let within : e ≤ length items = omega (arith, c.if-end-len.false, c.len.ensures, h.numbers.count) in (
      order,
      within,
      kept-all (slice_range items s e) (2 ^ c.args.self.now.levels.width) c.loop-less.less c.loop-less.kept c.loop-less.numbers c.loop-less.counts (i.right h)
          c.sort_kept.new.numbers c.sort_kept.new.counts (narrow c.args.self.now s e h)
          (omega (arith, length-range items s e order within, c.loop-less-test.false)) sort.numbers_len
          (omega (arith, same a, sort.numbers_len, sort.counts_len)) (omega (arith, inside a, sort.numbers_len)) sort.moved sort.sorted,
    )
