-- Each interval has its sample, and the walk goes on from the entry that it found.
use Rattle.std.proofs.Common.{◌≡◌, ◌≢◌, ℕ, ◌+◌, ◌*◌, ◌%◌, ◌^◌, ◌<◌, ◌≤◌, List, length, slice_index, sym, ap, ◌∙◌, arith}
use Rattle.std.proofs.lemmas.List.{get_or-set_other}
use Rattle.std.proofs.lemmas.Nat.{one_shl}
use Rattle.std.specs.Int.{div_ceil}
use Rattle.bit_lists.specs.Count.{as_bit}
use Rattle.bitm_strategies.specs.Samples.{IsSummaryOf, intervals, part_of, parts, sample}
use Rattle.bitm_select.specs.Search.{items_to}
use Rattle.bitm_strategies.proofs.lemmas.MadeLemmas.{half_within, interval_item}
use Rattle.bitm_strategies.proofs.lemmas.SampleLemmas.{before_more, sample_at}
use Rattle.bitm_tables.proofs.lemmas.TableLemmas.{entries}
use Rattle.tables_view.specs.Samples.{sample_number}
use Rattle.tables_view.proofs.FilledLemmas.{filled_more}
use Rattle.tables_view.proofs.SamplingLemmas.{samples_after, samples_fit}
use Rattle.tables_view.proofs.sampling.fill_samples.Goals as goal
use Rattle.tables_view.proofs.sampling.fill_samples.Goals.{After-div_ceil-count}

module _ (g : _) (c : After-div_ceil-count g) where
  room : c.args.first + c.div_ceil-count.result ≤ length c.args.samples.now
  room =
      samples_fit c.args.first c.args.part c.items_in-items.result c.div_ceil-count.result c.args.log2 c.requires.high c.requires.before
      c.div_ceil-count.ensures c.args.summary.now.len (length c.args.samples.now)
      (omega (arith, c.requires.inside, c.requires.sized.upper_len)) c.items_in-items.ensures.fits c.requires.room

  many : (b : _) → IsSummaryOf b c.args.summary.now → c.div_ceil-count.result ≡ intervals (part_of b c.args.part) (as_bit g.row.BIT) c.args.log2
  many b t =
      c.div_ceil-count.ensures
      ∙ ap (div_ceil c.items_in-items.result) (one_shl c.args.log2 64 (omega (arith, c.requires.high)))
      ∙ ap (λ (n : ℕ). div_ceil n (2 ^ c.args.log2)) (c.items_in-items.ensures.items b t)

pub put-requires : goal.put-requires
put-requires g c =
    let d = (goal.at.put-requires g c).After-div_ceil-count in
    omega (arith, room g d, c.loop-interval-test.true, c.loop-interval.auto.interval-end, c.loop-interval.auto.samples)

pub returns-clause-fits : goal.returns-clause-fits
returns-clause-fits g c = room g (goal.at.returns-clause-fits g c).After-div_ceil-count

pub returns-clause-after : goal.returns-clause-after
returns-clause-after g c =
    samples_after c.args.first c.args.part c.items_in-items.result c.div_ceil-count.result c.args.log2 c.requires.high c.requires.before
    c.div_ceil-count.ensures c.items_in-items.ensures.few

pub returns-clause-count : goal.returns-clause-count
returns-clause-count g c b t is =
    let d = (goal.at.returns-clause-count g c).After-div_ceil-count in
    omega (arith, is, many g d b t, before_more b (as_bit g.row.BIT) c.args.log2 c.args.part)

pub loop-interval-preserved : goal.loop-interval-preserved
loop-interval-preserved g c =
    let a = (goal.at.loop-interval-preserved g c).After-div_ceil-count in
    let i =
    interval_item c.loop-interval.interval c.items_in-items.result c.args.log2 c.div_ceil-count.result
    c.requires.high c.items_in-items.ensures.few c.div_ceil-count.ensures (omega (arith, c.loop-interval-test.true, c.loop-interval.auto.interval-end)) in
    let e = c.sample_from-sample.ensures in
    let v = as_bit g.row.BIT in
    let k = c.args.part in
    let d = c.args.log2 in
    let n = c.loop-interval.interval in
    let inv = c.loop-interval.invariant in
    let fits : c.args.first + n < length c.loop-interval.samples = omega (arith, room g a, c.loop-interval-test.true, c.loop-interval.auto.interval-end, c.loop-interval.auto.samples) in
    let below : (b : _) → IsSummaryOf b c.args.summary.now → items_to g.row.BIT b k c.loop-interval.entry ≤ n * 2 ^ d % 2 ^ 64 =
    λ b t. omega (arith, inv.at_most b t, i.1) in
    record {
      inside = e.inside;
      at_most = λ b t. half_within n d (items_to g.row.BIT b k c.sample_from-sample.result.1) (omega (arith, e.at_most b t (below b t), i.1));
      samples = λ b t is filled.
          let made = e.sample b t (c.items_in-items.ensures.items b t) (below b t) ∙ ap (sample (part_of b k) v d) i.1 in
          let inside : k < parts b = omega (arith, c.requires.inside, (entries b _ _ t.tables).upper_length) in
          let here : n < intervals (part_of b k) v d = omega (arith, c.loop-interval-test.true, c.loop-interval.auto.interval-end, many g a b t) in
          let there = sym (sample_at b v d k n inside here) ∙ ap (λ (x : ℕ). sample_number b v d (x + n)) (sym is) in
          let more = filled_more (sample_number b v d) c.loop-interval.samples (c.args.first + n) c.sample_from-sample.result.0 (inv.samples b t is filled) fits (made ∙ there) in
          λ j h. ap (λ (xs : List ℕ). slice_index xs j) c.put.ensures ∙ more j (omega (arith, h));
      kept = λ j h.
          let other : j ≢ c.args.first + n = λ x. omega (arith, x, h) in
          ap (λ (xs : List ℕ). slice_index xs j) c.put.ensures
          ∙ (get_or-set_other c.loop-interval.samples (c.args.first + n) j c.sample_from-sample.result.0 0 other ∙ inv.kept j (omega (arith, h)));
    }
