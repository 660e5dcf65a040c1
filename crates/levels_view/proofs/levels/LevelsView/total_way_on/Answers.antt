-- The item moves from level to level, and its bits come one by one.
use Rattle.std.proofs.Common.{◌≡◌, ◌+◌, ◌-◌, ◌/◌, ◌^◌, ap, subst, sym, ◌∙◌, arith}
use Rattle.std.specs.Prelude.{slice_index}
use Rattle.bitm_tables.specs.Tables.{Lists}
use Rattle.matrix_levels.specs.Levels.{level_position}
use Rattle.matrix_levels.specs.Matrix.{IsMatrix, level_in, numbers_in}
use Rattle.matrix_levels.proofs.lemmas.ManyLemmas.{level-next-item}
use Rattle.matrix_levels.proofs.lemmas.ReadsLemmas.{ranks-fewer, ranks-more, ranks-none}
use Rattle.levels_view.proofs.StepLemmas.{digits_more}
use Rattle.levels_view.proofs.levels.LevelsView.total_way_on.Goals as goal

pub loop-depth-init : goal.loop-depth-init
loop-depth-init g c =
    let T = g.T.TableSource in
    let l = c.args.self.now in
    let s = c.args.source.now in
    record {
      inside = c.requires.inside;
      small = c.requires.small;
      number = λ i h some stands bits. record { position = stands; digits = bits };
      reads = ranks-fewer l T.lists T.reads s s 0 (c.args.from - c.args.from) (ranks-none l T.lists T.reads s) (omega arith);
    }

pub loop-depth-preserved : goal.loop-depth-preserved
loop-depth-preserved g c =
    let T = g.T.TableSource in
    let l = c.args.self.now in
    let d = c.loop-depth.depth in
    let v = c.loop-depth.invariant in
    record {
      inside = c.in_ok-digit.ensures.inside;
      small = digits_more c.loop-depth.found d c.in_ok-digit.digit v.small;
      number = λ i h some stands bits.
          let m = h.numbers in
          let here = subst (λ (s : Lists). IsMatrix l s) (sym v.reads.same) h in
          let step = c.in_ok-digit.ensures.answer here in
          level-next-item (numbers_in l (T.lists c.args.source.now)) l.width m.fit m.most i (omega (arith, some, m.count)) d c.loop-depth.at c.loop-depth.found
          c.in_ok-digit.next c.in_ok-digit.digit (level_in l (T.lists c.loop-depth.source) d) (omega (arith, c.loop-depth-test.true, c.requires.most))
          (v.number i h some stands bits) (ap (λ (s : Lists). level_in l s d) v.reads.same) step.0 step.1;
      reads = ranks-more l T.lists T.reads c.args.source.now c.loop-depth.source _ (d - c.args.from) 1 (d + 1 - c.args.from) v.reads c.in_ok-digit.ensures.reads
          (omega (arith, c.loop-depth.auto));
    }

pub returns-clause-answer : goal.returns-clause-answer
returns-clause-answer g c = λ i h some stands bits.
    let l = c.args.self.now in
    let xs = numbers_in l (g.T.TableSource.lists c.args.source.now) in
    let all : c.loop-depth.depth ≡ c.args.to = omega (arith, c.loop-depth-test.false, c.loop-depth.auto, c.requires.order) in
    let at = c.loop-depth.invariant.number i h some stands bits in (
      at.digits ∙ ap (λ k. slice_index xs i / 2 ^ (l.width - k)) all,
      at.position ∙ ap (λ k. level_position xs l.width (slice_index xs i) k i) all,
    )
