-- The item and the first position of its number move from level to level, and its bits come one by one.
use Rattle.std.proofs.Common.{◌≡◌, ◌+◌, ◌-◌, ◌*◌, ◌/◌, ◌^◌, ◌<◌, ap, subst, sym, ◌∙◌, arith}
use Rattle.std.proofs.lemmas.Option.{same_Some}
use Rattle.std.specs.Prelude.{slice_index}
use Rattle.bitm_tables.specs.Tables.{bits_in, Lists}
use Rattle.matrix_levels.specs.Levels.{level_position}
use Rattle.matrix_levels.specs.Matrix.{IsMatrix, level_in, numbers_in}
use Rattle.matrix_levels.proofs.lemmas.ManyLemmas.{level-last, level-next-item}
use Rattle.matrix_levels.proofs.lemmas.ReadsLemmas.{ranks-fewer, ranks-more, ranks-none}
use Rattle.matrix_levels.proofs.lemmas.WalkLemmas.{step-position}
use Rattle.levels_view.proofs.PairLemmas.{own-digit}
use Rattle.levels_view.proofs.StepLemmas.{digits_more}
use Rattle.levels_view.proofs.levels.LevelsView.total_ways_on.Goals as goal

pub loop-depth-init : goal.loop-depth-init
loop-depth-init g c =
    let T = g.T.TableSource in
    let l = c.args.self.now in
    let s = c.args.source.now in
    let lists = T.lists s in
    let xs = numbers_in l lists in
    let known = c.known-depth.ensures.known in
    record {
      inside = c.requires.inside;
      base_inside = c.in_ok-base.ensures.inside;
      small = subst (λ k. c.args.number < 2 ^ k) (sym known) c.requires.small;
      number = λ i h some stands bits. record {
        position = stands ∙ ap (λ k. level_position xs l.width (slice_index xs i) k i) (sym known);
        digits = bits ∙ ap (λ k. slice_index xs i / 2 ^ (l.width - k)) (sym known);
      };
      base_is = λ i h some stands bits.
          let m = h.numbers in
          same_Some _ _ (c.in_ok-base.ensures.start xs (bits_in lists) (slice_index xs i) m (m.fit i 0 (omega (arith, some, m.count))) (sym bits))
          ∙ ap (λ k. level_position xs l.width (slice_index xs i) k 0) (sym known);
      reads = ranks-fewer l T.lists T.reads s s 0 (2 * (c.known-depth.result - l.known)) (ranks-none l T.lists T.reads s) (omega arith);
    }

pub loop-depth-preserved : goal.loop-depth-preserved
loop-depth-preserved g c =
    let T = g.T.TableSource in
    let l = c.args.self.now in
    let d = c.loop-depth.depth in
    let v = c.loop-depth.invariant in
    let xs = numbers_in l (T.lists c.args.source.now) in
    let to_two = c.in_ok-digit.ensures.reads.same ∙ v.reads.same in
    let less : d < l.width = omega (arith, c.loop-depth-test.true, c.width-depth-end.ensures.width) in
    record {
      inside = c.in_ok-digit.ensures.inside;
      base_inside = c.in_ok-first.ensures.inside;
      small = digits_more c.loop-depth.found d c.in_ok-digit.digit v.small;
      number = λ i h some stands bits.
          let m = h.numbers in
          let here = subst (λ (s : Lists). IsMatrix l s) (sym v.reads.same) h in
          let step = c.in_ok-digit.ensures.answer here in
          level-next-item xs l.width m.fit m.most i (omega (arith, some, m.count)) d c.loop-depth.at c.loop-depth.found c.in_ok-digit.next c.in_ok-digit.digit
          (level_in l (T.lists c.loop-depth.source) d) less (v.number i h some stands bits) (ap (λ (s : Lists). level_in l s d) v.reads.same) step.0 step.1;
      base_is = λ i h some stands bits.
          let m = h.numbers in
          let here = subst (λ (s : Lists). IsMatrix l s) (sym v.reads.same) h in
          let there = subst (λ (s : Lists). IsMatrix l s) (sym to_two) h in
          let step = c.in_ok-digit.ensures.answer here in
          let own = own-digit xs l.width i d c.loop-depth.at c.loop-depth.found c.in_ok-digit.digit (level_in l (T.lists c.loop-depth.source) d)
          (omega (arith, some, m.count)) (ap (λ (s : Lists). level_in l s d) v.reads.same) (v.number i h some stands bits) step.0 in
          step-position xs l.width (slice_index xs i) d 0 c.loop-depth.base c.in_ok-first.first c.in_ok-digit.digit
          (level_in l (T.lists c.total_step_on.new.source) d) (ap (λ (s : Lists). level_in l s d) to_two) own (v.base_is i h some stands bits)
          (same_Some _ _ (c.in_ok-first.ensures.answer there));
      reads =
          ranks-more l T.lists T.reads c.args.source.now c.total_step_on.new.source _ (2 * (d - l.known) + 1) 1 (2 * (d + 1 - l.known))
          (ranks-more l T.lists T.reads c.args.source.now c.loop-depth.source c.total_step_on.new.source (2 * (d - l.known)) 1 (2 * (d - l.known) + 1) v.reads
          c.in_ok-digit.ensures.reads (omega arith))
          c.in_ok-first.ensures.reads (omega (arith, c.loop-depth.auto, c.known-depth.ensures.known));
    }

pub returns-clause-answer : goal.returns-clause-answer
returns-clause-answer g c = λ i h some stands bits.
    let l = c.args.self.now in
    let m = h.numbers in
    let v = c.loop-depth.invariant in
    let xs = numbers_in l (g.T.TableSource.lists c.args.source.now) in
    let all : c.loop-depth.depth ≡ l.width =
    omega (arith, c.loop-depth-test.false, c.loop-depth.auto, c.width-depth-end.ensures.width, c.known-depth.ensures.most) in
    let at = v.number i h some stands bits in (
      level-last xs l.width m.fit m.most i (omega (arith, some, m.count)) c.loop-depth.depth c.loop-depth.at c.loop-depth.found all at,
      v.base_is i h some stands bits ∙ ap (λ d. level_position xs l.width (slice_index xs i) d 0) all,
      at.position ∙ ap (λ d. level_position xs l.width (slice_index xs i) d i) all,
    )
