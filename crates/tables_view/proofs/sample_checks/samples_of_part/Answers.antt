-- Each interval's sample is made again, and the walk goes on from the entry that it found.
use Rattle.std.proofs.Common.{◌≡◌, ℕ, ◌+◌, ◌*◌, ◌%◌, ◌^◌, ◌<◌, ◌≤◌, List, length, slice_index, sym, ap, ◌∙◌, arith}
use Rattle.std.proofs.lemmas.Nat.{one_shl}
use Rattle.std.specs.Int.{div_ceil}
use Rattle.bit_lists.specs.Count.{as_bit}
use Rattle.bitm_strategies.specs.Samples.{IsSummaryOf, intervals, part_of, parts, sample}
use Rattle.bitm_select.specs.Search.{items_to}
use Rattle.bitm_strategies.proofs.lemmas.MadeLemmas.{half_within, interval_item}
use Rattle.bitm_strategies.proofs.lemmas.SampleLemmas.{before_le, before_more, length-samples, sample_at}
use Rattle.bitm_tables.proofs.lemmas.TableLemmas.{entries}
use Rattle.tables_view.specs.Samples.{sample_number}
use Rattle.tables_view.proofs.SampleCheckLemmas.{filled_next}
use Rattle.tables_view.proofs.sample_checks.samples_of_part.Goals as goal
use Rattle.tables_view.proofs.sample_checks.samples_of_part.Goals.{After-div_ceil-count}

module _ (g : _) (c : After-div_ceil-count g) where
  many : (b : _) → IsSummaryOf b c.args.summary.now → c.div_ceil-count.result ≡ intervals (part_of b c.args.part) (as_bit g.row.BIT) c.args.log2
  many b t =
      c.div_ceil-count.ensures
      ∙ ap (div_ceil c.items_in-items.result) (one_shl c.args.log2 64 (omega (arith, c.requires.high)))
      ∙ ap (λ (n : ℕ). div_ceil n (2 ^ c.args.log2)) (c.items_in-items.ensures.items b t)

  inside : (b : _) → IsSummaryOf b c.args.summary.now → c.args.part < parts b
  inside b t = omega (arith, c.requires.inside, (entries b _ _ t.tables).upper_length)

pub returns-then-samples-first-clause-wrong : goal.returns-then-samples-first-clause-wrong
returns-then-samples-first-clause-wrong g c = λ _ b t is same.
    let d = (goal.at.returns-then-samples-first-clause-wrong g c).After-div_ceil-count in
    let v = as_bit g.row.BIT in
    omega (
      arith,
      is,
      many g d b t,
      before_more b v c.args.log2 c.args.part,
      before_le b v c.args.log2 (c.args.part + 1) (parts b) (omega (arith, inside g d b t)),
      length-samples b v c.args.log2 (parts b),
      ap (λ (xs : List ℕ). length xs) same,
      c.if-samples-first.true,
    )

pub returns-then-samples-first-2-clause-wrong : goal.returns-then-samples-first-2-clause-wrong
returns-then-samples-first-2-clause-wrong g c = λ _ b t is same.
    let d = (goal.at.returns-then-samples-first-2-clause-wrong g c).After-div_ceil-count in
    let v = as_bit g.row.BIT in
    let n = c.loop-interval.interval in
    let i =
    interval_item n c.items_in-items.result c.args.log2 c.div_ceil-count.result c.requires.high c.items_in-items.ensures.few c.div_ceil-count.ensures
    (omega (arith, c.loop-interval-test.true, c.loop-interval.auto.interval-end)) in
    let e = c.sample_from-sample.ensures in
    let below : items_to g.row.BIT b c.args.part c.loop-interval.entry ≤ n * 2 ^ c.args.log2 % 2 ^ 64 = omega (arith, c.loop-interval.invariant.at_most b t, i.1) in
    let made = e.sample b t (c.items_in-items.ensures.items b t) below ∙ ap (sample (part_of b c.args.part) v c.args.log2) i.1 in
    let here : n < intervals (part_of b c.args.part) v c.args.log2 = omega (arith, c.loop-interval-test.true, c.loop-interval.auto.interval-end, many g d b t) in
    let there = sym (sample_at b v c.args.log2 c.args.part n (inside g d b t) here) ∙ ap (λ (x : ℕ). sample_number b v c.args.log2 (x + n)) (sym is) in
    c.if-samples-first-2.true (ap (λ (xs : List ℕ). slice_index xs (c.args.first + n)) same ∙ sym (made ∙ there))

pub loop-interval-preserved : goal.loop-interval-preserved
loop-interval-preserved g c =
    let a = (goal.at.loop-interval-preserved g c).After-div_ceil-count in
    let v = as_bit g.row.BIT in
    let k = c.args.part in
    let d = c.args.log2 in
    let n = c.loop-interval.interval in
    let i =
    interval_item n c.items_in-items.result c.args.log2 c.div_ceil-count.result c.requires.high c.items_in-items.ensures.few c.div_ceil-count.ensures
    (omega (arith, c.loop-interval-test.true, c.loop-interval.auto.interval-end)) in
    let e = c.sample_from-sample.ensures in
    let inv = c.loop-interval.invariant in
    let below : (b : _) → IsSummaryOf b c.args.summary.now → items_to g.row.BIT b k c.loop-interval.entry ≤ n * 2 ^ d % 2 ^ 64 =
    λ b t. omega (arith, inv.at_most b t, i.1) in
    record {
      inside = e.inside;
      at_most = λ b t. half_within n d (items_to g.row.BIT b k c.sample_from-sample.result.1) (omega (arith, e.at_most b t (below b t), i.1));
      samples = λ b t is filled.
          let made = e.sample b t (c.items_in-items.ensures.items b t) (below b t) ∙ ap (sample (part_of b k) v d) i.1 in
          let here : n < intervals (part_of b k) v d = omega (arith, c.loop-interval-test.true, c.loop-interval.auto.interval-end, many g a b t) in
          let there = sym (sample_at b v d k n (inside g a b t) here) ∙ ap (λ (x : ℕ). sample_number b v d (x + n)) (sym is) in
          filled_next (sample_number b v d) c.args.samples.now (c.args.first + n) (c.args.first + (n + 1)) (omega arith) (inv.samples b t is filled) (c.if-samples-first-2.false ∙ (made ∙ there));
    }

pub returns-clause-count : goal.returns-clause-count
returns-clause-count g c b t is =
    let d = (goal.at.returns-clause-count g c).After-div_ceil-count in
    omega (arith, is, many g d b t, before_more b (as_bit g.row.BIT) c.args.log2 c.args.part)
