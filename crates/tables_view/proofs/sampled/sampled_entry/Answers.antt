-- Where the samples are those of the words, both entries that are asked agree with them.
use Rattle.std.proofs.Common.{◌≡◌, ◌+◌, ◌*◌, ◌^◌, ◌≤◌, length, arith}
use Rattle.bit_lists.specs.Bits.{bits_of}
use Rattle.bit_lists.specs.Count.{as_bit}
use Rattle.bitm_tables.specs.Entry.{before_in_part, entries_from}
use Rattle.bitm_select.specs.Search.{sought_in}
use Rattle.bitm_strategies.proofs.lemmas.PartLemmas.{count_in_part}
use Rattle.bitm_tables.proofs.lemmas.TableLemmas.{entries}
use Rattle.tables_view.proofs.BoundsLemmas.{part_size}
use Rattle.tables_view.proofs.sampled.sampled_entry.Goals as goal

pub returns-in_default-clause-found : goal.returns-in_default-clause-found
returns-in_default-clause-found g c = λ t own.
    let l = g.T.TableSource.lists c.args.source.now in
    let e = entries _ _ _ t in
    let size = part_size (bits_of l.words) l.upper l.lower e c.args.part c.requires.inside in
    absurd
    (c.in_default.ensures.own (bits_of l.words) (as_bit g.row.BIT) own (omega (arith, e.upper_length, c.requires.inside))
    (omega (arith, c.entries_of_part-entries.ensures, c.lower_len.ensures, size)))

pub returns-clause-found : goal.returns-clause-found
returns-clause-found g c = λ t own.
    let l = g.T.TableSource.lists c.args.source.now in
    let b = bits_of l.words in
    let v = as_bit g.row.BIT in
    let k = c.args.part in
    let m = sought_in g.row.BIT l.words in
    let e = entries _ _ _ t in
    let size = part_size b l.upper l.lower e k c.requires.inside in
    let n : c.entries_of_part-entries.result ≡ entries_from (length l.lower) k = omega (arith, c.entries_of_part-entries.ensures, c.lower_len.ensures) in
    let h = c.in-Some.ensures.own b v own (omega (arith, e.upper_length, c.requires.inside)) (omega (arith, n, size)) in
    let within = c.in-Some.ensures.within in
    let low : before_in_part m (k * 2 ^ 21 + c.in-Some.bounds.low) ≤ c.args.rank =
    omega (arith, h.at_most, count_in_part v b k c.in-Some.bounds.low (omega (arith, within, n, size))) in
    c.entry_between.ensures.found t low
    (λ more. omega (arith, h.above (omega (arith, more, n)), count_in_part v b k c.in-Some.bounds.end (omega (arith, more, size))))
