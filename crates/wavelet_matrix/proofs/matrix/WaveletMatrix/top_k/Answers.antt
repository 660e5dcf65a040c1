-- The next number is kept among those that go first, and these are sorted.
use Rattle.std.proofs.Common.{◌≡◌, ℕ, ◌<◌, List, [], length, slice_range, sym, ap, ◌∙◌, subst, arith}
use Rattle.std.proofs.lemmas.Iterator.Consumers.{YieldsList-from_first, YieldsList-so_far, YieldsList-turn, YieldsList-end}
use Rattle.bitm_bits.proofs.lemmas.AppendLemmas.{written_back}
use Rattle.std.specs.List.{zip}
use Rattle.matrix_levels.specs.Frequent.{AreBest, AreMostFrequent}
use Rattle.matrix_levels.proofs.FrequentLemmas.{best-moved, best-none, first-are, first-sorted, less-so-far}
use Rattle.matrix_levels.proofs.HeapLemmas.{sorted-pairs}
use Rattle.wavelet_matrix.proofs.matrix.WaveletMatrix.top_k.Goals as goal

pub loop-number-init : goal.loop-number-init
loop-number-init g c =
    let nothing = c.new-numbers.ensures.items in
    let none = c.new-counts.ensures.items in
    let P : List ℕ → Type 0 = λ l. AreBest [] c.args.k (zip l c.new-counts.result.items) in
    record {
      same = ap length none ∙ sym (ap length nothing);
      few = omega (arith, ap length nothing);
      heap = λ full i j start below inside. absurd (omega (arith, ap length nothing, full, inside));
      best = subst P (sym nothing) (best-none c.args.k);
    }

pub loop-number-preserved : goal.loop-number-preserved
loop-number-preserved g c =
    let all = c.distinct-number-items.result in
    let ys = c.loop-number.yielded in
    let y : ℕ × ℕ = (c.in-Some.number, c.in-Some.count) in
    let given = YieldsList-from_first (λ p. p) (λ coming. coming) all c.into_iter-number-iterator.ensures.into_iter_gives in
    let turn = YieldsList-turn given ys _ c.loop-number.yielded_by _ _ y c.in-Some.is c.next.ensures.steps in
    let less =
    less-so-far all c.distinct-number-items.ensures.rising (length ys) y turn.0 turn.1 ys (YieldsList-so_far given ys _ c.loop-number.yielded_by) in
    let kept = c.in_ok-keep.ensures in
    record {
      same = kept.same;
      few = kept.few;
      heap = kept.heap;
      best = kept.best ys c.loop-number.invariant.best less;
    }

pub returns : goal.returns
returns g c =
    let i = c.loop-number.invariant in
    let all = c.distinct-number-items.result in
    let ys = c.loop-number.yielded in
    let k = c.args.k in
    let given = YieldsList-from_first (λ p. p) (λ coming. coming) all c.into_iter-number-iterator.ensures.into_iter_gives in
    let end = YieldsList-end given ys _ c.loop-number.yielded_by _ _ c.in-None.is c.next.ensures.steps in
    let us = c.as_mut_slice.result.now in
    let vs = c.as_mut_slice-2.result.now in
    let us2 = c.sort_tallies.new.numbers in
    let vs2 = c.sort_tallies.new.counts in
    let sort = c.sort_tallies.ensures in
    let P : List ℕ → Type 0 = λ l. AreBest ys k (zip l vs) in
    let Q : List ℕ → Type 0 = λ l. AreBest ys k (zip c.loop-number.numbers.items l) in
    let best = subst P (sym c.as_mut_slice.ensures.value) (subst Q (sym c.as_mut_slice-2.ensures.value) i.best) in
    let same : length vs2 ≡ length us2 =
    omega (arith, sort.len, sort.counts_len, i.same, ap length c.as_mut_slice.ensures.value, ap length c.as_mut_slice-2.ensures.value) in
    let sorted = first-sorted ys k (zip us2 vs2) (best-moved ys k (zip us vs) (zip us2 vs2) sort.moved best)
    (sorted-pairs us2 vs2 same (λ i j _ less inside. sort.sorted i j less inside)) in
    let us_is = c.as_slice.ensures.value ∙ written_back c.loop-number.numbers.items us2 c.loop-number.numbers.len (sort.len ∙ c.as_mut_slice.ensures.len) in
    let vs_is = c.as_slice-2.ensures.value ∙ written_back c.loop-number.counts.items vs2 c.loop-number.counts.len (sort.counts_len ∙ c.as_mut_slice-2.ensures.len) in
    let is : c.in_ok-found.found.items ≡ zip us2 vs2 =
    c.in_ok-found.ensures ∙ ap (λ l. zip l c.as_slice-2.result.now) us_is ∙ ap (λ l. zip us2 l) vs_is in
    let xs = slice_range c.args.self.now.items c.args.range.start c.args.range.end in
    let R : List (ℕ × ℕ) → Type 0 = λ l. AreMostFrequent xs k l in
    subst R (sym is) (first-are xs k all ys (zip us2 vs2) c.distinct-number-items.ensures end.0 sorted)
