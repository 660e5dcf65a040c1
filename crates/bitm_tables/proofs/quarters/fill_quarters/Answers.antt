-- Each number is that of its basic block, and the last one is the last block begun.
use Rattle.std.proofs.Common.{◌≡◌, ℕ, length, ap, arith}
use Rattle.std.specs.Int.{div_ceil}
use Rattle.bit_lists.proofs.lemmas.BitsLemmas.{length-bits_of}
use Rattle.bit_lists.specs.Bits.{bits_of}
use Rattle.bitm_tables.proofs.lemmas.QuarterLemmas.{record_begun, records_of}
use Rattle.bitm_tables.proofs.quarters.fill_quarters.Goals as goal

pub returns : goal.returns
returns g c =
    let words = (g.T.TableSource.lists c.args.source.now).words in
    let b = bits_of words in
    let all : length c.loop-at.quarters ≡ div_ceil (length b) 512 =
    omega (
      arith,
      c.loop-at.auto.quarters,
      c.requires.room,
      records_of (length words),
      ap (λ (n : ℕ). div_ceil n 512) (length-bits_of words),
    ) in
    record {
      len = all;
      counts = λ r q less begun.
          c.loop-at.invariant.counts r q
          (omega (arith, all, c.loop-at-test.false, c.loop-at.auto.at-end, c.loop-at.auto.quarters, record_begun (length b) r (omega (arith, begun)))) less begun;
    }
