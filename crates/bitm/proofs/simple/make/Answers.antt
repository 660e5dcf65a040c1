-- The ones up to the end of a run are at most all ones, which fit; each entry is the ones before its run.
use Rattle.std.proofs.Common.{◌≡◌, ◌+◌, ◌*◌, [], ◌∷◌, ◌++◌, length, map, sym, ap, ap₂, ◌∙◌, arith}
use Rattle.std.specs.Int.{div_ceil}
use Rattle.std.specs.List.{range_with_len}
use Rattle.std.proofs.lemmas.Grind.{div_ceil_times}
use Rattle.std.proofs.lemmas.List.FromFn.{map-range_with_len_more}
use Rattle.bit_lists.proofs.lemmas.BitsLemmas.{length-bits_of}
use Rattle.bit_lists.proofs.lemmas.CountLemmas.{ones_before_none, ones_before_past, ones_before-at_most_all}
use Rattle.bit_lists.specs.Bits.{bits_of}
use Rattle.bit_lists.specs.Count.{ones_before}
use Rattle.bitm.specs.Simple.{simple_table_of}
use Rattle.bitm.proofs.lemmas.SimpleLemmas.{runs_of_words}
use Rattle.bitm.proofs.simple.make.Goals as goal

pub overflow_add-total : goal.overflow_add-total
overflow_add-total c =
    let most = ones_before-at_most_all (bits_of c.args.words.now) (512 * (c.loop-run.run + 1)) in
    omega (arith, c.loop-run.invariant.count, c.ones_of_run-total.ensures, most, c.requires.few)

pub loop-run-init : goal.loop-run-init
loop-run-init c = record { entries = c.in_ok-ranks.ensures.items; count = sym (ones_before_none (bits_of c.args.words.now)) }

pub loop-run-preserved : goal.loop-run-preserved
loop-run-preserved c =
    let b = bits_of c.args.words.now in
    let one_more = map-range_with_len_more (λ k. ones_before b (512 * k)) 0 c.loop-run.run c.loop-run.run (omega arith) in
    record {
      entries =
          c.in_ok-push.ensures.items
          ∙ ap₂ (λ xs x. xs ++ x ∷ []) c.loop-run.invariant.entries c.loop-run.invariant.count
          ∙ sym one_more;
      count = ap (λ n. n + c.ones_of_run-total.result) c.loop-run.invariant.count ∙ c.ones_of_run-total.ensures;
    }

-- there are as many runs as the bits have begun ones of 512
pub returns-clause-table : goal.returns-clause-table
unfolding simple_table_of
returns-clause-table c =
    let b = bits_of c.args.words.now in
    let ended : c.loop-run.run ≡ div_ceil (length b) 512 =
    omega (arith, c.div_ceil-runs.ensures, runs_of_words (length c.args.words.now), ap (λ n. div_ceil n 512) (length-bits_of c.args.words.now)) in
    c.into_boxed_slice.ensures.items
    ∙ c.loop-run.invariant.entries
    ∙ ap (λ n. map (λ k. ones_before b (512 * k)) (range_with_len 0 n)) ended

pub returns-clause-total : goal.returns-clause-total
returns-clause-total c =
    let b = bits_of c.args.words.now in
    c.loop-run.invariant.count
    ∙ ones_before_past b (512 * c.loop-run.run)
    (omega (arith, c.div_ceil-runs.ensures, div_ceil_times (length c.args.words.now) 8 (omega arith), length-bits_of c.args.words.now))
