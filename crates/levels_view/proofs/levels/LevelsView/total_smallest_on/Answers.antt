-- From level to level the bit is 1 where as many have a 0 as are still to be passed.
use Rattle.std.proofs.Common.{◌≡◌, ◌+◌, ◌-◌, ◌*◌, ◌<◌, ◌≤◌, slice_range, nat_le, refl, ap, sym, subst, arith}
use Rattle.bitm_tables.specs.Tables.{bits_in, Lists}
use Rattle.matrix_levels.specs.Levels.{partition_position}
use Rattle.matrix_levels.specs.Matrix.{digit_position, level_in, numbers_in, IsMatrix}
use Rattle.matrix_levels.proofs.lemmas.PrefixLemmas.{IsPrefixRange-first}
use Rattle.matrix_levels.proofs.lemmas.RangeLemmas.{IsQuantilePrefix-next, equal-last, less-first, part-zeros, smallest}
use Rattle.matrix_levels.proofs.lemmas.ReadsLemmas.{ranks-more, ranks-none}
use Rattle.matrix_levels.proofs.lemmas.WalkLemmas.{position-same}
use Rattle.levels_view.proofs.RangeLemmas.{digit-added, left-within, of-digit, parts-within, passed-is}
use Rattle.levels_view.proofs.StepLemmas.{digits_more}
use Rattle.levels_view.proofs.levels.LevelsView.total_smallest_on.Goals as goal

pub loop-depth-init : goal.loop-depth-init
loop-depth-init g c =
    let T = g.T.TableSource in
    let l = c.args.self.now in
    let xs = numbers_in l (T.lists c.args.source.now) in
    record {
      inside = c.requires.inside;
      rank = c.requires.rank;
      most = omega arith;
      small = omega arith;
      prefix = λ h. record {
        range = IsPrefixRange-first xs l.width c.args.start c.args.end h.numbers.fit (omega (arith, c.requires.rank)) (omega (arith, c.requires.inside, h.numbers.count));
        less = omega (arith, less-first l.width 0 (slice_range xs c.args.start c.args.end) refl);
        some = c.requires.rank;
        small = omega arith;
      };
      reads = ranks-none l T.lists T.reads c.args.source.now;
    }

pub loop-depth-preserved : goal.loop-depth-preserved
loop-depth-preserved g c =
    let T = g.T.TableSource in
    let l = c.args.self.now in
    let d = c.loop-depth.depth in
    let i = c.loop-depth.invariant in
    let s = T.lists c.loop-depth.source in
    let xs = numbers_in l (T.lists c.args.source.now) in
    let part = c.in_ok-before.ensures.inside in
    let to = c.in_ok-next.ensures.inside in
    let ones = c.in_ok-before.ones in
    let zeros = c.in_ok-before.zeros in
    let left = c.loop-depth.left in
    let v = nat_le zeros left in
    let order : c.loop-depth.first ≤ c.loop-depth.last = omega (arith, i.rank) in
    let before : d < l.width = omega (arith, c.loop-depth-test.true, c.width-depth-end.ensures.width) in
    let within = parts-within v ones zeros c.with_digit-size.result c.with_digit-passed.result _ c.with_digit-size.ensures c.with_digit-passed.ensures part in
    let rest = left-within ones zeros left c.with_digit-size.result c.with_digit-passed.result c.with_digit-size.ensures c.with_digit-passed.ensures
    (omega (arith, i.rank, part)) in
    let same = ap (λ (m : Lists). level_in l m d) i.reads.same in
    let counted = λ (h : IsMatrix l (T.lists c.args.source.now)).
    c.in_ok-before.ensures.answer (subst (λ (m : Lists). IsMatrix l m) (sym i.reads.same) h) in
    let after = λ (h : IsMatrix l (T.lists c.args.source.now)).
    c.in_ok-next.ensures.answer (numbers_in l s) (bits_in s) c.loop-depth.last (subst (λ (m : Lists). IsMatrix l m) (sym i.reads.same) h).numbers order i.inside (counted h).0
    (of-digit (λ u. partition_position (digit_position l d) u (level_in l s d) c.loop-depth.last - partition_position (digit_position l d) u (level_in l s d) c.loop-depth.first)
    v ones zeros c.with_digit-size.result c.with_digit-size.ensures (counted h).1 (counted h).2) in
    record {
      inside = to.1;
      rank = omega (arith, to.0, rest.0);
      most = omega (arith, to.0, within, i.most);
      small = digits_more c.loop-depth.number d v i.small;
      prefix = λ h.
          IsQuantilePrefix-next xs l.width d c.loop-depth.number (slice_range xs c.args.start c.args.end) c.loop-depth.first c.loop-depth.last left c.args.k zeros
          _ c.in_ok-next.next c.in_ok-next.after (left - c.with_digit-passed.result) v before (i.prefix h)
          (part-zeros xs l.width d _ _ _ _ _ (level_in l s d) same refl refl (counted h).2)
          (digit-added c.loop-depth.number v)
          (position-same _ _ _ (level_in l s d) c.loop-depth.first _ same (after h).0)
          (position-same _ _ _ (level_in l s d) c.loop-depth.last _ same (after h).1)
          (passed-is zeros left c.with_digit-passed.result c.with_digit-passed.ensures);
      reads = ranks-more l T.lists T.reads c.args.source.now c.loop-depth.source _ (2 * d) 2 (2 * (d + 1)) i.reads c.in_ok-before.ensures.reads (omega arith);
    }

pub overflow_sub-left : goal.overflow_sub-left
overflow_sub-left g c =
    let rest = left-within c.in_ok-before.ones c.in_ok-before.zeros c.loop-depth.left c.with_digit-size.result c.with_digit-passed.result c.with_digit-size.ensures
    c.with_digit-passed.ensures (omega (arith, c.loop-depth.invariant.rank, c.in_ok-before.ensures.inside)) in
    rest.1

pub returns-clause-answer : goal.returns-clause-answer
returns-clause-answer g c = λ h.
    let l = c.args.self.now in
    let p = c.loop-depth.invariant.prefix h in
    let xs = numbers_in l (g.T.TableSource.lists c.args.source.now) in
    let ends : c.loop-depth.depth ≡ l.width = omega (arith, c.loop-depth-test.false, c.loop-depth.auto.depth-end, c.width-depth-end.ensures.width) in (
      smallest xs l.width c.loop-depth.depth c.loop-depth.number _ c.loop-depth.first c.loop-depth.last c.loop-depth.left c.args.k ends p.range p.less p.some,
      equal-last xs l.width c.loop-depth.depth c.loop-depth.number _ c.loop-depth.first c.loop-depth.last ends p.range,
    )
