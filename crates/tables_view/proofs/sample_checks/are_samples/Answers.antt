-- The parts follow one another: each has its start and its samples, and there are no more.
use Rattle.std.proofs.Common.{◌≡◌, ◌∙◌, ℕ, ◌<◌, List, length, slice_index, take, sym, ap, subst, rules, arith}
use Rattle.std.proofs.Math.Seq.{take-length}
use Rattle.bit_lists.specs.Count.{as_bit}
use Rattle.bitm_strategies.specs.Samples.{IsSummaryOf, parts, sample_count_before}
use Rattle.bitm_tables.proofs.lemmas.TableLemmas.{entries}
use Rattle.bitm_strategies.proofs.lemmas.SampleLemmas.{length-samples, start_at}
use Rattle.tables_view.specs.Samples.{AreSamples}
use Rattle.tables_view.proofs.SamplingLemmas.{all_made}
use Rattle.tables_view.proofs.sample_checks.are_samples.Goals as goal
use Rattle.tables_view.proofs.sample_checks.are_samples.Goals.{After-loop-part}

pub returns-then-starts-part : goal.returns-then-starts-part
returns-then-starts-part g c b t = (
  search rules,
  λ s.
      let v = as_bit g.row.BIT in
      let k = c.loop-part.part in
      let inside : k < parts b = omega (arith, c.loop-part-test.true, c.loop-part.auto.part-end, (entries b _ _ t.tables).upper_length) in
      absurd (c.if-starts-part.true (ap (λ (xs : List ℕ). slice_index xs k) s.starts_are ∙ (start_at b v c.args.log2 k inside ∙ sym (c.loop-part.invariant.count b t)))),
)

module _ (g : _) (c : After-loop-part g) where
  ended : (b : _) → IsSummaryOf b c.args.summary.now → c.loop-part.part ≡ parts b
  ended b t = omega (arith, (entries b _ _ t.tables).upper_length, c.loop-part-test.false, c.loop-part.auto.part-end)

  total : (b : _) → IsSummaryOf b c.args.summary.now → c.loop-part.count ≡ sample_count_before b (as_bit g.row.BIT) c.args.log2 (parts b)
  total b t = c.loop-part.invariant.count b t ∙ ap (sample_count_before b (as_bit g.row.BIT) c.args.log2) (ended b t)

pub returns-then-count-samples : goal.returns-then-count-samples
returns-then-count-samples g c b t = (
  search rules,
  λ s.
      let all = total g (goal.at.returns-then-count-samples g c).After-loop-part b t in
      absurd (c.if-count-samples.true (all ∙ (sym (length-samples b (as_bit g.row.BIT) c.args.log2 (parts b)) ∙ ap (λ (xs : List ℕ). length xs) (sym s.samples_are)))),
)

pub returns : goal.returns
returns g c b t = (
  λ _.
      let v = as_bit g.row.BIT in
      let d = c.args.log2 in
      let i = c.loop-part.invariant in
      let at = (goal.at.returns g c).After-loop-part in
      let many : length c.args.starts.now ≡ parts b = omega (arith, c.requires.parts, (entries b _ _ t.tables).upper_length) in
      let made =
      all_made b v d c.loop-part.count c.args.samples.now c.args.starts.now i.fits (total g at b t) many (i.samples b t)
      (λ j h. i.starts b t j (omega (arith, h, ended g at b t))) in
      subst (λ (xs : List ℕ). AreSamples b v d xs c.args.starts.now)
      (ap (λ (n : ℕ). take n c.args.samples.now) c.if-count-samples.false ∙ take-length c.args.samples.now) made,
  search rules,
)
