-- Each number is that of its record, and the last record is the last one begun.
use Rattle.std.proofs.Common.{◌≡◌, ℕ, List, length, ap, sym, ◌∙◌, subst, arith}
use Rattle.std.specs.Int.{div_ceil}
use Rattle.bit_lists.proofs.lemmas.BitsLemmas.{length-bits_of}
use Rattle.bit_lists.specs.Bits.{bits_of}
use Rattle.bitm_tables.proofs.lemmas.QuarterLemmas.{CountTo, record_begun, records_of}
use Rattle.bitm_tables.proofs.quarters.make_quarters.Goals as goal

pub returns-clause-quarters : goal.returns-clause-quarters
returns-clause-quarters g c =
    let words = (g.T.TableSource.lists c.args.source.now).words in
    let b = bits_of words in
    let made = c.into_boxed_slice.ensures.items in
    let all : c.loop-record.record ≡ div_ceil (length b) 512 =
    omega (
      arith,
      c.loop-record-test.false,
      c.loop-record.auto.record-end,
      c.div_ceil-records.ensures,
      c.words_len.ensures,
      records_of (length words),
      ap (λ (n : ℕ). div_ceil n 512) (length-bits_of words),
    ) in
    record {
      len = ap length made ∙ c.loop-record.invariant.len ∙ all;
      counts = λ r q less begun.
          subst (λ (xs : List ℕ). CountTo b xs c.loop-record.record) (sym made) c.loop-record.invariant.counts r q
          (omega (arith, all, record_begun (length b) r (omega (arith, begun)))) less begun;
    }
