-- Each interval adds its sample, and the walk goes on from the entry that it found.
use Rattle.std.proofs.Common.{◌≡◌, ℕ, ◌*◌, ◌%◌, ◌^◌, ◌≤◌, ◌++◌, map, sym, ap, ◌∙◌, arith, append-nil}
use Rattle.std.proofs.lemmas.Nat.{one_shl}
use Rattle.std.specs.Int.{div_ceil}
use Rattle.std.specs.List.{range_with_len}
use Rattle.bit_lists.specs.Count.{as_bit}
use Rattle.bitm_strategies.specs.Samples.{intervals, part_of, sample}
use Rattle.bitm_select.specs.Search.{items_to, sought_bits}
use Rattle.bitm_strategies.proofs.lemmas.MadeLemmas.{sized_first, interval_item, half_within, one_more}
use Rattle.bitm_select.proofs.lemmas.SoughtLemmas.{first_none}
use Rattle.bitm_strategies.proofs.samples.push_samples.Goals as goal

pub sample_from-sample-requires-clause-item : goal.sample_from-sample-requires-clause-item
sample_from-sample-requires-clause-item g c =
    let i =
    interval_item c.loop-interval.interval c.items_in-items.result c.args.log2 c.div_ceil-interval-end.result
    c.requires.high c.items_in-items.ensures.few c.div_ceil-interval-end.ensures (omega arith) in
    omega (arith, i.0, i.1)

pub loop-interval-init : goal.loop-interval-init
loop-interval-init g c =
    record {
      inside = omega (arith, sized_first _ _ _ c.args.part c.requires.sized.upper_len c.requires.sized.lower_len c.requires.inside);
      at_most = λ b t. omega (arith, first_none (sought_bits (as_bit g.row.BIT) b) c.args.part);
      samples = λ b t. sym (append-nil c.args.samples.now.items);
    }

pub loop-interval-preserved : goal.loop-interval-preserved
loop-interval-preserved g c =
    let i =
    interval_item c.loop-interval.interval c.items_in-items.result c.args.log2 c.div_ceil-interval-end.result
    c.requires.high c.items_in-items.ensures.few c.div_ceil-interval-end.ensures (omega arith) in
    let e = c.sample_from-sample.ensures in
    let v = as_bit g.row.BIT in
    let k = c.args.part in
    let d = c.args.log2 in
    let n = c.loop-interval.interval in
    let inv = c.loop-interval.invariant in
    record {
      inside = e.inside;
      at_most = λ b t.
          let x : items_to g.row.BIT b k c.loop-interval.entry ≤ n * 2 ^ d % 2 ^ 64 = omega (arith, inv.at_most b t, i.1) in
          half_within n d (items_to g.row.BIT b k c.sample_from-sample.result.1) (omega (arith, e.at_most b t x, i.1));
      samples = λ b t.
          let x : items_to g.row.BIT b k c.loop-interval.entry ≤ n * 2 ^ d % 2 ^ 64 = omega (arith, inv.at_most b t, i.1) in
          let at = e.sample b t (c.items_in-items.ensures.items b t) x ∙ ap (sample (part_of b k) v d) i.1 in
          one_more (λ j. sample (part_of b k) v d (j * 2 ^ d)) c.args.samples.now.items c.loop-interval.samples.items _ n
          c.sample_from-sample.result.0 c.in_ok-push.ensures.items (inv.samples b t) at;
    }

pub returns : goal.returns
returns g c b t =
    let v = as_bit g.row.BIT in
    let k = c.args.part in
    let d = c.args.log2 in
    let end : c.loop-interval.interval ≡ intervals (part_of b k) v d =
    omega arith
    ∙ c.div_ceil-interval-end.ensures
    ∙ ap (div_ceil c.items_in-items.result) (one_shl d 64 (omega arith))
    ∙ ap (λ (n : ℕ). div_ceil n (2 ^ d)) (c.items_in-items.ensures.items b t) in
    c.loop-interval.invariant.samples b t
    ∙ ap (λ (n : ℕ). c.args.samples.now.items ++ map (λ i. sample (part_of b k) v d (i * 2 ^ d)) (range_with_len 0 n)) end
