-- A fragment of the range is inside; each step leaves half of the positions, whose number has a digit less.
use Rattle.std.proofs.Common.{◌≡◌, ◌+◌, ◌-◌, ◌*◌, ◌/◌, ◌≤◌, length, sym, ap, ◌∙◌, arith}
use Rattle.elias_fano.proofs.lemmas.FragmentLemmas.{fragment-same}
use Rattle.elias_fano.proofs.lemmas.SizeLemmas.{digit_count-half, digits-grow}
use Rattle.elias_fano.proofs.lemmas.SplitLemmas.{fragment-in-range, Parting-up, Parting-down}
use Rattle.elias_fano.specs.Low.{fragment, Lows}
use Rattle.elias_fano.proofs.searching.split_low.Goals as goal

pub fragment-requires-clause-in_range : goal.fragment-requires-clause-in_range
fragment-requires-clause-in_range c =
    let low = c.loop-left.low in
    let i = c.loop-left.invariant in
    let room = ap (λ w. c.args.end * w) i.width in
    fragment-in-range low.words _ c.args.end low.width (omega (arith, i.bound, c.loop-left-test.true))
    (omega (arith, room, ap length i.words, c.requires.some.inside))
    (λ none. c.if-width-eq0.false (c.width.ensures ∙ sym i.width ∙ none))
    (omega (arith, i.width, c.requires.some.width)) c.requires.some.short

pub loop-left-preserved-then-fragment-rest : goal.loop-left-preserved-then-fragment-rest
loop-left-preserved-then-fragment-rest c =
    let i = c.loop-left.invariant in
    let left = c.loop-left.left in
    let item = c.fragment.ensures.item ∙ fragment-same c.args.low.now c.loop-left.low _ i.words i.width in
    let order : left - (left / 2 + 1) ≤ left / 2 = omega arith in
    record {
      begin = omega (arith, i.begin);
      bound = omega (arith, i.bound, c.loop-left-test.true);
      less = λ _.
          let at : c.loop-left.from + (left / 2 + 1) - 1 ≡ c.loop-left.from + left / 2 = omega arith in
          omega (arith, ap (fragment c.args.low.now) at, item, c.if-fragment-rest.true);
      at_least = λ before.
          let at : c.loop-left.from + (left / 2 + 1) + (left - (left / 2 + 1)) ≡ c.loop-left.from + left = omega (arith, c.loop-left-test.true) in
          omega (arith, ap (fragment c.args.low.now) at, i.at_least (omega (arith, before, at)));
      parts = λ rise.
          Parting-up _ _ _ _ _ _ rise (i.parts rise) _ (omega (arith, c.loop-left-test.true))
          (omega (arith, item, c.if-fragment-rest.true));
      words = ap (λ (low : Lows). low.words) c.fragment.ensures.counted ∙ i.words;
      width = ap (λ (low : Lows). low.width) c.fragment.ensures.counted ∙ i.width;
      read = omega (
        arith,
        i.read,
        ap (λ (low : Lows). low.read) c.fragment.ensures.counted,
        digit_count-half left c.loop-left-test.true,
        digits-grow _ _ order,
      );
    }

pub loop-left-preserved : goal.loop-left-preserved
loop-left-preserved c =
    let i = c.loop-left.invariant in
    let left = c.loop-left.left in
    let item = c.fragment.ensures.item ∙ fragment-same c.args.low.now c.loop-left.low _ i.words i.width in
    record {
      begin = i.begin;
      bound = omega (arith, i.bound);
      less = i.less;
      at_least = λ _. omega (arith, item, c.if-fragment-rest.false);
      parts = λ rise.
          Parting-down _ _ _ _ _ _ rise (i.parts rise) _ (omega (arith, c.loop-left-test.true))
          (omega (arith, item, c.if-fragment-rest.false));
      words = ap (λ (low : Lows). low.words) c.fragment.ensures.counted ∙ i.words;
      width = ap (λ (low : Lows). low.width) c.fragment.ensures.counted ∙ i.width;
      read = omega (
        arith,
        i.read,
        ap (λ (low : Lows). low.read) c.fragment.ensures.counted,
        digit_count-half left c.loop-left-test.true,
      );
    }
