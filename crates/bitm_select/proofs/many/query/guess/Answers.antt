-- What two entries claim is that the one of the rank is between them.
use Rattle.std.proofs.Common.{◌≡◌, ◌+◌, ◌<◌, ◌≤◌, length, sym, subst, arith}
use Rattle.bitm_tables.specs.Entry.{before_in_part, lower_entry}
use Rattle.bitm_select.specs.Search.{sought_in}
use Rattle.bitm_tables.specs.Tables.{Lists, HasTables}
use Rattle.bitm_select.proofs.lemmas.ManyLemmas.{near_between}
use Rattle.bitm_select.proofs.lemmas.SoughtLemmas.{low_is}
use Rattle.bitm_select.proofs.many.query.guess.Goals as goal

pub returns-then-rest-above-clause-search : goal.returns-then-rest-above-clause-search
returns-then-rest-above-clause-search g c rank search_is =
    let lists = g.T.TableSource.lists c.args.source.now in
    let m = sought_in g.row.BIT lists.words in
    let at = c.min-entry.result in
    let same = c.sought_entry.ensures.same in
    let inside : at + 32 < length lists.lower = omega (arith, c.min-entry.ensures, c.lower_len.ensures, c.requires.many) in
    let below : HasTables lists → before_in_part m at ≤ c.args.query.rest =
    λ t.
    omega (
      arith,
      c.if-below-rest.true,
      c.ones_to_entry-below.ensures,
      low_is m c.sought_entry.result at (c.sought_entry.ensures.entry t),
    ) in
    let above : HasTables lists → c.args.query.rest < before_in_part m (at + 32) =
    λ t.
    omega (
      arith,
      c.if-rest-above.true,
      c.ones_to_entry-above.ensures,
      low_is m c.sought_entry-2.result (at + 32)
          (subst (λ (l : Lists). c.sought_entry-2.result ≡ lower_entry (sought_in g.row.BIT l.words) (at + 32)) same
          (c.sought_entry-2.ensures.entry (subst HasTables (sym same) t))),
    ) in
    record {
      search =
          record {
            entry = omega (arith, inside);
            in_part =
                record {
                  part = search_is.in_part.part;
                  there = search_is.in_part.there;
                  from = omega (arith, search_is.in_part.there, c.requires.one_part);
                  to = omega (arith, inside, c.requires.few);
                  fits = search_is.in_part.fits;
                  rest = search_is.in_part.rest;
                };
            near =
                λ t.
                near_between g.row.BIT lists rank c.args.query.rest c.args.query.entry at 5 t (search_is.near t) c.requires.one_part
                (omega (arith, inside, c.requires.few)) inside (omega (arith, inside, c.requires.few)) (below t) (above t);
          };
      inside = inside;
    }
