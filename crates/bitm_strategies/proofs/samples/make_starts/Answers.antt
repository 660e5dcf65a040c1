-- Each part adds how many samples it has, and before that how many there are.
use Rattle.std.proofs.Common.{◌≡◌, ℕ, [], map, ap, ◌∙◌, arith}
use Rattle.std.specs.List.{range_with_len}
use Rattle.bit_lists.specs.Count.{as_bit}
use Rattle.bitm_strategies.specs.Samples.{parts, sample_count_before}
use Rattle.bitm_strategies.proofs.lemmas.MadeLemmas.{one_more}
use Rattle.bitm_strategies.proofs.lemmas.SampleLemmas.{before_more}
use Rattle.bitm_tables.proofs.lemmas.TableLemmas.{entries}
use Rattle.bitm_strategies.proofs.samples.make_starts.Goals as goal

pub overflow_add-count : goal.overflow_add-count
overflow_add-count g c =
    omega (arith, c.loop-part.invariant.few, c.samples_in-count.ensures.few, c.requires.sized.upper_len)

pub loop-part-preserved : goal.loop-part-preserved
loop-part-preserved g c =
    let v = as_bit g.row.BIT in
    let d = c.args.log2 in
    let k = c.loop-part.part in
    let inv = c.loop-part.invariant in
    record {
      few = omega (arith, inv.few, c.samples_in-count.ensures.few);
      count = λ b t. omega (arith, inv.count b t, c.samples_in-count.ensures.count b t, before_more b v d k);
      starts = λ b t.
          one_more (sample_count_before b v d) [] c.loop-part.starts.items _ k c.loop-part.count c.in_ok-push.ensures.items (inv.starts b t)
          (inv.count b t);
    }

pub returns : goal.returns
returns g c b t =
    let ended : c.loop-part.part ≡ parts b = omega (arith, (entries b _ _ t.tables).upper_length) in
    c.loop-part.invariant.starts b t
    ∙ ap (λ (n : ℕ). map (sample_count_before b (as_bit g.row.BIT) c.args.log2) (range_with_len 0 n)) ended
