-- The tables are those of the content, and so the samples are its own.
use Rattle.std.proofs.Common.{◌≡◌, ◌*◌, length, ap, ap₂, ◌∙◌, arith}
use Rattle.bit_lists.proofs.lemmas.BitsLemmas.{length-bits_of}
use Rattle.bit_lists.specs.Bits.{bits_of}
use Rattle.bit_lists.specs.Count.{count_of, as_bit}
use Rattle.bitm_strategies.specs.Samples.{samples_of, sample_starts_of, Summarizes}
use Rattle.bitm_tables.proofs.lemmas.StretchLemmas.{ones_before-self}
use Rattle.bitm_tables.proofs.lemmas.TableLemmas.{entries}
use Rattle.bitm_strategies.proofs.combined.CombinedSampling.make.Goals as goal
use Rattle.bitm_strategies.proofs.combined.CombinedSampling.make.Goals.{Start}

pub items_among-requires : goal.items_among-requires
items_among-requires g c =
    let b = bits_of c.args.content.now in
    omega (arith, c.requires.total, ones_before-self b (length b), length-bits_of c.args.content.now)

tabled : (g : _) (c : Start g)
    → Summarizes (bits_of c.args.content.now) c.args.l1ranks.now c.args.l2ranks.now c.args.total_rank (length c.args.content.now * 64)
tabled g c =
    record { tables = c.requires.tables; ones_are = c.requires.total; bits_are = omega (arith, length-bits_of c.args.content.now) }

pub make_samples-requires-clause-sized : goal.make_samples-requires-clause-sized
make_samples-requires-clause-sized g c =
    let long = length-bits_of c.args.content.now in
    let t = entries _ _ _ c.requires.tables in
    record { upper_len = omega (arith, long, t.upper_length); lower_len = omega (arith, long, t.lower_length) }

pub returns : goal.returns
returns g c =
    let b = bits_of c.args.content.now in
    let v = as_bit g.row.BIT in
    let D = g.D.CombinedSamplingDensity in
    let long = length-bits_of c.args.content.now in
    let t = tabled g (goal.at.returns g c).Start in
    let items = c.items_among.ensures.items b c.requires.total (omega (arith, long)) in
    let bits : length c.args.content.now * 64 ≡ length b = omega (arith, long) in
    let chosen : D.chosen c.items_among.result (length c.args.content.now * 64) ≡ D.chosen (count_of b v) (length b) =
    ap₂ D.chosen items bits in
    let kept = ap (samples_of b v) c.items_per_sample_log2-log2.ensures.value in
    let starts = ap (sample_starts_of b v) c.items_per_sample_log2-log2.ensures.value in
    record {
      short = c.requires.short;
      density_is = c.density_for-density.ensures ∙ chosen;
      samples_are = c.in_ok-samples.ensures.samples b t ∙ kept;
      starts_are = c.in_ok-samples.ensures.starts b t ∙ starts;
    }
