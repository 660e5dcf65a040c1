-- Each part adds its samples.
use Rattle.std.proofs.Common.{◌≡◌, ℕ, ◌++◌, List, sym, ap, ◌∙◌, arith}
use Rattle.bit_lists.specs.Count.{as_bit}
use Rattle.bitm_strategies.specs.Samples.{parts, samples_of_parts, part_of, part_samples}
use Rattle.bitm_strategies.proofs.lemmas.SampleLemmas.{samples_more}
use Rattle.bitm_tables.proofs.lemmas.TableLemmas.{entries}
use Rattle.bitm_strategies.proofs.samples.make_samples.Goals as goal

pub loop-part-preserved : goal.loop-part-preserved
loop-part-preserved g c b t =
    let v = as_bit g.row.BIT in
    let d = c.args.log2 in
    let k = c.loop-part.part in
    c.in_ok-push_samples.ensures b t
    ∙ ap (λ (l : List ℕ). l ++ part_samples (part_of b k) v d) (c.loop-part.invariant b t)
    ∙ sym (samples_more b v d k)

pub returns-clause-samples : goal.returns-clause-samples
returns-clause-samples g c b t =
    let ended : c.loop-part.part ≡ parts b = omega (arith, (entries b _ _ t.tables).upper_length) in
    c.into_boxed_slice.ensures.items
    ∙ c.loop-part.invariant b t
    ∙ ap (samples_of_parts b (as_bit g.row.BIT) c.args.log2) ended
