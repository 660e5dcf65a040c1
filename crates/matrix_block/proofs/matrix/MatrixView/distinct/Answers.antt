-- The next number after those that are less goes on the numbers so far.
use Rattle.std.proofs.Common.{◌≡◌, ℕ, ◌-◌, ◌^◌, ◌<◌, ◌≤◌, length, slice_range, All, refl, sym, subst, arith}
use Rattle.std.proofs.lemmas.Bool.{false≢true}
use Rattle.std.proofs.lemmas.List.Elements.{All-drop, All-take}
use Rattle.matrix_levels.proofs.lemmas.CountLemmas.{length-range}
use Rattle.matrix_block.specs.Block.{items_in}
use Rattle.matrix_block.proofs.TallyLemmas.{counts-more, counts-none, next-above, next-least, rising-more, rising-none, so-far-all, so-far-full, so-far-more, so-far-none, AreSoFar}
use Rattle.matrix_block.proofs.matrix.MatrixView.distinct.Goals as goal

pub loop-less-init : goal.loop-less-init
loop-less-init c =
    let w = c.args.self.now.levels.width in
    record {
      order = c.in-Found.ensures.inside.0;
      inside = c.in-Found.ensures.inside.1;
      numbers = rising-none w c.args.from c.args.numbers.now;
      counts = counts-none (c.args.end - c.args.start) c.args.counts.now;
      right = λ h.
          let items = items_in c.args.self.now in
          let xs = slice_range items c.args.start c.args.end in
          let Small : ℕ → Type 0 = λ x. x < 2 ^ w in
          let fit : All Small xs = All-take Small (c.args.end - c.args.start) _ (All-drop Small c.args.start items h.numbers.fit) in
          subst (λ (less : ℕ). AreSoFar xs (2 ^ w) c.args.from less 0 c.args.numbers.now c.args.counts.now) (sym (c.in-Found.ensures.answer h).2)
          (so-far-none xs (2 ^ w) c.args.from c.args.numbers.now c.args.counts.now fit);
    }

pub returns-then-not-goes_on-clause-answer : goal.returns-then-not-goes_on-clause-answer
returns-then-not-goes_on-clause-answer c = λ h.
    let i = c.loop-less.invariant in
    let xs = slice_range (items_in c.args.self.now) c.args.start c.args.end in
    let n = 2 ^ c.args.self.now.levels.width in
    let t = c.in-Found-quantile_and_count.tally in
    let is = (c.in-Found-quantile_and_count.ensures.answer h).2 in
    false≢true (c.if-not-goes_on.ensures.1 (
      next-least xs n c.args.from c.loop-less.less c.loop-less.written t.0 t.1 c.loop-less.numbers c.loop-less.counts (i.right h) is,
      next-above xs n c.args.from c.loop-less.less c.loop-less.written t.0 t.1 c.loop-less.numbers c.loop-less.counts (i.right h) is,
    ))

pub loop-less-preserved : goal.loop-less-preserved
loop-less-preserved c =
    let i = c.loop-less.invariant in
    let k = c.loop-less.written in
    let t = c.in-Found-quantile_and_count.tally in
    let within = c.in-Found-quantile_and_count.ensures.inside in
    let on = c.if-not-goes_on.ensures.0 refl in
    let room : k < length c.loop-less.numbers = omega (arith, c.if-written-numbers.true) in
    let same : length c.loop-less.counts ≡ length c.loop-less.numbers =
    omega (arith, i.numbers.narrow.written.len, i.counts.written.len, c.requires.room) in
    record {
      order = i.order;
      inside = i.inside;
      numbers =
          rising-more c.args.self.now.levels.width c.args.from k t.0 c.args.numbers.now c.loop-less.numbers i.numbers
          (omega (arith, room, i.numbers.narrow.written.len)) on.0 within.2 on.1;
      counts =
          counts-more (c.args.end - c.args.start) k t.1 c.args.counts.now c.loop-less.counts i.counts
          (omega (arith, room, same, i.counts.written.len)) within.3 within.4;
      right = λ h.
          let found = c.in-Found-quantile_and_count.ensures.answer h in
          so-far-more (slice_range (items_in c.args.self.now) c.args.start c.args.end) (2 ^ c.args.self.now.levels.width) c.args.from c.loop-less.less k
          t.0 t.1 c.loop-less.numbers c.loop-less.counts (i.right h) found.2 found.3 room same;
    }

pub returns-else-written-numbers-clause-answer : goal.returns-else-written-numbers-clause-answer
returns-else-written-numbers-clause-answer c = λ h.
    let i = c.loop-less.invariant in (
      i.order,
      omega (arith, i.inside, h.numbers.count),
      so-far-full (slice_range (items_in c.args.self.now) c.args.start c.args.end) (2 ^ c.args.self.now.levels.width) c.args.from c.loop-less.less
          c.loop-less.written c.loop-less.numbers c.loop-less.counts (i.right h)
          (omega (arith, i.numbers.narrow.written.len, i.numbers.narrow.written.room))
          (omega (arith, i.numbers.narrow.written.len, i.counts.written.len, c.requires.room)) (omega (arith, c.if-written-numbers.false)),
    )

pub returns-after-loop-less-clause-answer : goal.returns-after-loop-less-clause-answer
returns-after-loop-less-clause-answer c = λ h.
    let i = c.loop-less.invariant in
    let items = items_in c.args.self.now in
    let within : c.args.end ≤ length items = omega (arith, i.inside, h.numbers.count) in (
      i.order,
      within,
      so-far-all (slice_range items c.args.start c.args.end) (2 ^ c.args.self.now.levels.width) c.args.from c.loop-less.less c.loop-less.written
          c.loop-less.numbers c.loop-less.counts (i.right h) (omega (arith, i.numbers.narrow.written.len, i.numbers.narrow.written.room))
          (omega (arith, i.numbers.narrow.written.len, i.counts.written.len, c.requires.room))
          (omega (arith, length-range items c.args.start c.args.end i.order within, c.loop-less-test.false)),
    )
