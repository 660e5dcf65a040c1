-- From level to level those with a 0 where the bound has a 1 are less.
use Rattle.std.proofs.Common.{◌≡◌, ℕ, ◌+◌, ◌-◌, ◌*◌, ◌<◌, Some, slice_range, ap, sym, subst, ◌∙◌, arith}
use Rattle.bit_lists.specs.Bits.{digit}
use Rattle.bitm_tables.specs.Tables.{bits_in, Lists}
use Rattle.matrix_levels.specs.Levels.{partition_position}
use Rattle.matrix_levels.specs.Matrix.{digit_position, level_in, numbers_in, IsMatrix}
use Rattle.matrix_levels.specs.Numbers.{count_less}
use Rattle.matrix_levels.proofs.lemmas.PrefixLemmas.{prefix-all}
use Rattle.matrix_levels.proofs.lemmas.RangeLemmas.{less-first, less-last, part-zeros}
use Rattle.matrix_levels.proofs.lemmas.ReadsLemmas.{ranks-more, ranks-none}
use Rattle.matrix_levels.proofs.lemmas.WalkLemmas.{digits-first, level_position-first, level_position-range, step-position}
use Rattle.levels_view.proofs.RangeLemmas.{less-more, of-digit, parts-within}
use Rattle.levels_view.proofs.levels.LevelsView.total_less_on.Goals as goal

pub loop-depth-init : goal.loop-depth-init
loop-depth-init g c =
    let l = c.args.self.now in
    let xs = numbers_in l (g.T.TableSource.lists c.args.source.now) in
    record {
      order = c.requires.order;
      inside = c.requires.inside;
      most = omega arith;
      first_is = λ h. level_position-first xs l.width c.args.bound c.args.start;
      last_is = λ h. level_position-first xs l.width c.args.bound c.args.end;
      less = λ h. less-first l.width _ (slice_range xs c.args.start c.args.end) (sym (digits-first c.args.bound l.width c.requires.fit));
      reads = ranks-none l g.T.TableSource.lists g.T.TableSource.reads c.args.source.now;
    }

pub loop-depth-preserved : goal.loop-depth-preserved
loop-depth-preserved g c =
    let T = g.T.TableSource in
    let l = c.args.self.now in
    let d = c.loop-depth.depth in
    let x = c.args.bound in
    let i = c.loop-depth.invariant in
    let s = T.lists c.loop-depth.source in
    let xs = numbers_in l (T.lists c.args.source.now) in
    let ys = slice_range xs c.args.start c.args.end in
    let v = c.digit_of-digit.result in
    let part = c.in_ok-before.ensures.inside in
    let to = c.in_ok-next.ensures.inside in
    let zeros = c.in_ok-before.zeros in
    let before : d < l.width = omega (arith, c.loop-depth-test.true, c.width-width.ensures.width) in
    let dig : v ≡ digit x (l.width - 1 - d) = c.digit_of-digit.ensures ∙ ap (λ (w : ℕ). digit x (w - 1 - d)) c.width-width.ensures.width in
    let within = parts-within v c.in_ok-before.ones zeros c.with_digit-size.result c.with_digit-less.result _ c.with_digit-size.ensures c.with_digit-less.ensures part in
    let same = ap (λ (m : Lists). level_in l m d) i.reads.same in
    let counted = λ (h : IsMatrix l (T.lists c.args.source.now)).
    c.in_ok-before.ensures.answer (subst (λ (m : Lists). IsMatrix l m) (sym i.reads.same) h) in
    let after = λ (h : IsMatrix l (T.lists c.args.source.now)).
    c.in_ok-next.ensures.answer (numbers_in l s) (bits_in s) c.loop-depth.last (subst (λ (m : Lists). IsMatrix l m) (sym i.reads.same) h).numbers i.order i.inside (counted h).0
    (of-digit (λ u. partition_position (digit_position l d) u (level_in l s d) c.loop-depth.last - partition_position (digit_position l d) u (level_in l s d) c.loop-depth.first)
    v c.in_ok-before.ones zeros c.with_digit-size.result c.with_digit-size.ensures (counted h).1 (counted h).2) in
    record {
      order = omega (arith, to.0);
      inside = to.1;
      most = omega (arith, to.0, within, i.most);
      first_is = λ h.
          step-position xs l.width x d c.args.start c.loop-depth.first c.in_ok-next.next v (level_in l s d) same dig (i.first_is h) (after h).0;
      last_is = λ h.
          step-position xs l.width x d c.args.end c.loop-depth.last c.in_ok-next.after v (level_in l s d) same dig (i.last_is h) (after h).1;
      less = λ h.
          less-more xs l.width d x ys _ _ before
          (level_position-range xs l.width x c.args.start c.args.end h.numbers.fit c.requires.fit c.requires.order
          (omega (arith, c.requires.inside, h.numbers.count)) d (omega (arith, before)))
          v dig zeros c.with_digit-less.result c.loop-depth.count
          (part-zeros xs l.width d _ _ _ _ _ (level_in l s d) same (i.first_is h) (i.last_is h) (counted h).2)
          c.with_digit-less.ensures (i.less h);
      reads = ranks-more l T.lists T.reads c.args.source.now c.loop-depth.source _ (2 * d) 2 (2 * (d + 1)) i.reads c.in_ok-before.ensures.reads (omega arith);
    }

pub returns-clause-answer : goal.returns-clause-answer
returns-clause-answer g c = λ h.
    let l = c.args.self.now in
    let d = c.loop-depth.depth in
    let ys = slice_range (numbers_in l (g.T.TableSource.lists c.args.source.now)) c.args.start c.args.end in
    let ends : d ≡ l.width = omega (arith, c.loop-depth-test.false, c.loop-depth.auto.depth-end, c.width-width.ensures.width) in
    ap Some (c.loop-depth.invariant.less h ∙ less-last l.width d _ ys ends ∙ ap (count_less ys) (prefix-all c.args.bound l.width d ends))
