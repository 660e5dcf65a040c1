-- Of more parts the tables and the starts show what stands before them.
use Rattle.std.proofs.Common.{◌≡◌, ℕ, ◌*◌, ◌^◌, List, length, get_or, slice_index, sym, ap, ◌∙◌, subst, arith}
use Rattle.bit_lists.proofs.lemmas.BitsLemmas.{length-bits_of}
use Rattle.bit_lists.specs.Bits.{bits_of, digit_count}
use Rattle.bit_lists.specs.Count.{as_bit, ones_before}
use Rattle.bitm_strategies.specs.Samples.{parts, IsSampledPart, SampledReads}
use Rattle.bitm_select.specs.Search.{sought_in}
use Rattle.bitm_tables.specs.Tables.{Lists, HasTables, IsIndexed}
use Rattle.bitm_tables.specs.declared.source.counts.ReadCounts.{ReadCounts}
use Rattle.bitm_strategies.proofs.lemmas.SampleLemmas.{length-starts, start_at}
use Rattle.bitm_tables.proofs.lemmas.TableLemmas.{HasEntries, entries}
use Rattle.bitm_strategies.proofs.sampled.sampled_in_parts.Goals as goal

at : (l : Lists) → HasTables l → HasEntries (bits_of l.words) l.upper l.lower
at l t = entries (bits_of l.words) l.upper l.lower t

pub offset_bounds-starts-part : goal.offset_bounds-starts-part
offset_bounds-starts-part g c =
    let l = g.T.TableSource.lists c.args.source.now in
    let t = at l c.requires.tables in
    record { fits = omega (arith, c.last_part-part.ensures.inside, t.upper_length, length-bits_of l.words, c.requires.short) }

pub bounds-starts-part : goal.bounds-starts-part
bounds-starts-part g c =
    let l = g.T.TableSource.lists c.args.source.now in
    let t = at l c.requires.tables in
    let long = length-starts (bits_of l.words) (as_bit g.row.BIT) c.args.log2 in
    omega (arith, c.last_part-part.ensures.inside, t.upper_length, long, ap length c.requires.starts)

pub sampled_in_part-requires-clause-sampled : goal.sampled_in_part-requires-clause-sampled
sampled_in_part-requires-clause-sampled g c =
    let l = g.T.TableSource.lists c.args.source.now in
    let bit = g.row.BIT in
    let t = at l c.requires.tables in
    let k = c.last_part-part.result in
    let last = c.last_part-part.ensures in
    let indexed : IsIndexed l = record { tables = c.requires.tables; short = c.requires.short } in
    subst
    (λ (x : Lists).
    IsSampledPart bit x c.args.samples.now c.args.log2
    (record { part = k; samples = slice_index c.args.starts.now k; items = c.before_part-before.result }) c.args.rank)
    (sym (c.before_part-before.ensures.same ∙ last.same))
    (record {
      low = c.requires.low;
      high = c.requires.high;
      samples = c.requires.samples;
      part = last.last indexed;
      start_is =
          ap (λ (xs : List ℕ). get_or xs k 0) c.requires.starts
          ∙ start_at (bits_of l.words) (as_bit bit) c.args.log2 k (omega (arith, last.inside, t.upper_length));
      before_is =
          subst (λ (x : Lists). IsIndexed x → c.before_part-before.result ≡ ones_before (sought_in bit x.words) (k * 2 ^ 32)) last.same
          c.before_part-before.ensures.count indexed;
    })

pub returns-clause-reads : goal.returns-clause-reads
returns-clause-reads g c =
    let T = g.T.TableSource in
    let t = at (T.lists c.args.source.now) c.requires.tables in
    let part = c.last_part-part.ensures in
    let before = c.before_part-before.ensures in
    let same = before.same ∙ part.same in
    let uppers = ap (λ (x : Lists). digit_count (parts (bits_of x.words))) same in
    let from = T.reads c.args.source.now in
    subst
    (λ (x : Lists).
    SampledReads (bits_of x.words) (as_bit g.row.BIT) c.args.log2 c.args.rank c.sampled_in_part.result from
    (T.reads c.sampled_in_part.new.source))
    same
    (c.sampled_in_part.ensures.reads from
    (record {
      upper = omega (arith, ap (λ (r : ReadCounts). r.upper) before.counted, part.reads.upper, ap digit_count t.upper_length, uppers);
      lower = omega (arith, ap (λ (r : ReadCounts). r.lower) before.counted, part.reads.lower);
      words = omega (arith, ap (λ (r : ReadCounts). r.words) before.counted, part.reads.words);
      upper_kept = omega (arith, ap (λ (r : ReadCounts). r.upper) before.counted, part.reads.upper_kept);
      lower_kept = omega (arith, ap (λ (r : ReadCounts). r.lower) before.counted, part.reads.lower_kept);
      words_kept = omega (arith, ap (λ (r : ReadCounts). r.words) before.counted, part.reads.words_kept);
    }))
