-- The labels do not fall, so what holds at the middle holds on one side of it.
use Rattle.std.proofs.Common.{◌≡◌, ◌+◌, ◌-◌, ◌/◌, ◌<◌, get_or, ap, ◌∙◌, arith}
use Rattle.bit_lists.proofs.lemmas.DigitLemmas.{digit_count-mono, digit_count_half}
use Rattle.louds.proofs.lemmas.ReadLemmas.{same_held, same_read}
use Rattle.louds.proofs.leading.first_from.Goals as goal

pub label_of-requires-clause-labels : goal.label_of-requires-clause-labels
label_of-requires-clause-labels g c =
    let L = g.L.Labels in
    let i = c.loop-low.invariant in
    same_held L.fitting (L.seen c.args.labels.now) (L.seen c.loop-low.labels) c.args.len i.words i.width c.requires.labels

pub loop-low-preserved-then-label_of-label : goal.loop-low-preserved-then-label_of-label
loop-low-preserved-then-label_of-label g c =
    let L = g.L.Labels in
    let i = c.loop-low.invariant in
    let old = L.seen c.args.labels.now in
    let ls = L.listed old.words old.width c.args.len in
    let left = c.loop-low.high - c.loop-low.low in
    let middle = c.loop-low.low + left / 2 in
    let value : c.label_of.result ≡ get_or ls middle 0 =
    c.label_of.ensures.label ∙ ap (λ xs. get_or xs middle 0) (same_read L.listed old (L.seen c.loop-low.labels) c.args.len i.words i.width) in
    let some : 0 < left = omega (arith, c.loop-low-test.true) in
    record {
      from = omega (arith, i.from);
      order = omega (arith, c.loop-low-test.true);
      to = i.to;
      less = λ grow v from below.
          omega (arith, grow v middle from (omega arith) (omega (arith, i.to, c.loop-low-test.true)), value, c.if-label_of-label.true);
      not_less = i.not_less;
      reads =
          omega (
            arith,
            i.reads,
            ap (λ l. l.read) c.label_of.ensures.counted,
            digit_count_half left some,
            digit_count-mono (c.loop-low.high - (middle + 1)) (left / 2) (omega arith),
          );
      words = ap (λ l. l.words) c.label_of.ensures.counted ∙ i.words;
      width = ap (λ l. l.width) c.label_of.ensures.counted ∙ i.width;
    }

pub loop-low-preserved : goal.loop-low-preserved
loop-low-preserved g c =
    let L = g.L.Labels in
    let i = c.loop-low.invariant in
    let old = L.seen c.args.labels.now in
    let ls = L.listed old.words old.width c.args.len in
    let left = c.loop-low.high - c.loop-low.low in
    let middle = c.loop-low.low + left / 2 in
    let value : c.label_of.result ≡ get_or ls middle 0 =
    c.label_of.ensures.label ∙ ap (λ xs. get_or xs middle 0) (same_read L.listed old (L.seen c.loop-low.labels) c.args.len i.words i.width) in
    let some : 0 < left = omega (arith, c.loop-low-test.true) in
    record {
      from = i.from;
      order = omega arith;
      to = omega (arith, i.to, c.loop-low-test.true);
      less = i.less;
      not_less = λ grow v from to.
          omega (arith, grow middle v (omega (arith, i.from)) from to, value, c.if-label_of-label.false);
      reads =
          omega (
            arith,
            i.reads,
            ap (λ l. l.read) c.label_of.ensures.counted,
            digit_count_half left some,
            digit_count-mono (middle - c.loop-low.low) (left / 2) (omega arith),
          );
      words = ap (λ l. l.words) c.label_of.ensures.counted ∙ i.words;
      width = ap (λ l. l.width) c.label_of.ensures.counted ∙ i.width;
    }

pub returns : goal.returns
returns g c =
    let i = c.loop-low.invariant in
    let meet : c.loop-low.low ≡ c.loop-low.high = omega (arith, i.order, c.loop-low-test.false) in
    record {
      from = i.from;
      to = omega (arith, i.order, i.to);
      answer = λ grow. record {
        less = i.less grow;
        not_less = λ v from to. i.not_less grow v (omega (arith, meet)) to;
      };
      reads = record { at_most = omega (arith, i.reads); words = i.words; width = i.width };
    }
