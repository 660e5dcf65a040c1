-- The parts follow one another: each has its start and its samples.
use Rattle.std.proofs.Common.{◌≡◌, ◌∙◌, length, ap, arith}
use Rattle.bit_lists.specs.Count.{as_bit}
use Rattle.bitm_strategies.specs.Samples.{parts, sample_count_before}
use Rattle.bitm_tables.proofs.lemmas.TableLemmas.{entries}
use Rattle.tables_view.proofs.SamplingLemmas.{all_made}
use Rattle.tables_view.proofs.sampling.fill_all.Goals as goal

pub returns-clause-made : goal.returns-clause-made
returns-clause-made g c b t =
    let v = as_bit g.row.BIT in
    let d = c.args.log2 in
    let i = c.loop-part.invariant in
    let e = entries b _ _ t.tables in
    let ended : c.loop-part.part ≡ parts b = omega (arith, e.upper_length, c.loop-part-test.false, c.loop-part.auto.part-end) in
    let many : length c.loop-part.starts ≡ parts b = omega (arith, c.loop-part.auto.starts, c.requires.parts, e.upper_length) in
    all_made b v d c.loop-part.count c.loop-part.samples c.loop-part.starts (omega (arith, i.fits, i.len))
    (i.count b t ∙ ap (sample_count_before b v d) ended) many (i.samples b t)
    (λ j h. i.starts b t j (omega (arith, h, ended)))
