-- Nothing stands before the only part.
use Rattle.std.proofs.Common.{rules, sym, arith}
use Rattle.bit_lists.proofs.lemmas.CountLemmas.{ones_before_none}
use Rattle.bit_lists.specs.Bits.{bits_of}
use Rattle.bit_lists.specs.Count.{as_bit}
use Rattle.bitm_select.specs.Search.{sought_in}
use Rattle.bitm_tables.specs.Tables.{Lists, HasTables}
use Rattle.bitm_select.proofs.lemmas.MarkLemmas.{none_in_nothing}
use Rattle.bitm_tables.proofs.lemmas.TableLemmas.{HasEntries, entries}
use Rattle.bitm_strategies.proofs.lemmas.WalkLemmas.{empty_reads}
use Rattle.bitm_strategies.proofs.sampled.sampled_select_on.Goals as goal

at : (l : Lists) → HasTables l → HasEntries (bits_of l.words) l.upper l.lower
at l t = entries (bits_of l.words) l.upper l.lower t

pub returns-in-0-clause-answer : goal.returns-in-0-clause-answer
returns-in-0-clause-answer g c =
    let t = at (g.T.TableSource.lists c.args.source.now) c.requires.tables in
    none_in_nothing _ (as_bit g.row.BIT) c.args.rank (omega (arith, t.upper_length, c.upper_len.ensures, c.in-0.is))

pub returns-in-0-clause-reads : goal.returns-in-0-clause-reads
returns-in-0-clause-reads g c =
    let l = g.T.TableSource.lists c.args.source.now in
    let t = at l c.requires.tables in
    empty_reads (bits_of l.words) (as_bit g.row.BIT) c.args.log2 c.args.rank
    (g.T.TableSource.reads c.args.source.now) (omega (arith, t.upper_length, c.upper_len.ensures, c.in-0.is))

-- ---- one part

pub sampled_in_part-requires-clause-sampled : goal.sampled_in_part-requires-clause-sampled
sampled_in_part-requires-clause-sampled g c =
    let m = sought_in g.row.BIT (g.T.TableSource.lists c.args.source.now).words in
    record {
      low = c.requires.low;
      high = c.requires.high;
      samples = c.requires.samples;
      part =
          record {
            inside = omega (arith, c.upper_len.ensures, c.in-1.is);
            at_most = omega (arith, ones_before_none m);
            next = λ h. absurd (omega (arith, h, c.upper_len.ensures, c.in-1.is));
          };
      start_is = search rules;
      before_is = sym (ones_before_none m);
    }
