-- The entry is the last one of the part with no more before it, whoever found it.
use Rattle.std.proofs.Common.{◌<◌, length, sym, subst, arith}
use Rattle.bitm_tables.proofs.lemmas.LengthLemmas.{few_entries, first_of_part}
use Rattle.bitm_select.proofs.lemmas.ManyLemmas.{near_found}
use Rattle.bitm_tables.specs.Entry.{entries_from}
use Rattle.bitm_select.specs.Search.{sought_in, IsLastEntry}
use Rattle.bitm_tables.specs.Tables.{HasTables, Lists}
use Rattle.tables_view.proofs.sampled_many.begin.Goals as goal
use Rattle.tables_view.proofs.sampled_many.begin.Goals.{After-entry_by_guess-in_part}

inside : (g : _) (c : After-entry_by_guess-in_part g)
    → c.entry_by_guess-in_part.result.0 < entries_from (length (g.T.TableSource.lists c.args.source.now).lower) c.part_of_rank-part.result.0
inside g c =
    subst (λ (l : Lists). c.entry_by_guess-in_part.result.0 < entries_from (length l.lower) c.part_of_rank-part.result.0)
    c.part_of_rank-part.ensures.same c.entry_by_guess-in_part.ensures.last.inside

pub overflow_mul-entry : goal.overflow_mul-entry
overflow_mul-entry g c =
    record {
      fits =
          omega (
            arith,
            first_of_part _ c.requires.sized c.part_of_rank-part.result.0 c.part_of_rank-part.ensures.inside,
            few_entries _ c.requires.sized,
          );
    }

pub overflow_add-entry : goal.overflow_add-entry
overflow_add-entry g c =
    let d = (goal.at.overflow_add-entry g c).After-entry_by_guess-in_part in
    record {
      fits =
          omega (
            arith,
            inside g d,
            first_of_part _ c.requires.sized c.part_of_rank-part.result.0 c.part_of_rank-part.ensures.inside,
            few_entries _ c.requires.sized,
          );
    }

pub returns-clause-search : goal.returns-clause-search
returns-clause-search g c =
    let d = (goal.at.returns-clause-search g c).After-entry_by_guess-in_part in
    let lists = g.T.TableSource.lists c.args.source.now in
    let part = c.part_of_rank-part.result.0 in
    let rest = c.part_of_rank-part.result.1 in
    let entry = c.entry_by_guess-in_part.result.0 in
    let same = c.part_of_rank-part.ensures.same in
    record {
      entry = omega (arith, inside g d, first_of_part lists c.requires.sized part c.part_of_rank-part.ensures.inside);
      in_part =
          record {
            part = part;
            there = c.part_of_rank-part.ensures.inside;
            from = omega arith;
            to = omega (arith, inside g d);
            fits = c.part_of_rank-part.ensures.fits;
            rest = c.part_of_rank-part.ensures.claimed;
          };
      near =
          λ t.
          near_found g.row.BIT lists c.args.rank rest part entry
          (c.part_of_rank-part.ensures.part (record { tables = t; short = c.requires.sized.short }))
          (subst (λ (l : Lists). IsLastEntry (sought_in g.row.BIT l.words) (length l.lower) part rest entry) same
          (c.entry_by_guess-in_part.ensures.last.last (subst HasTables (sym same) t)));
    }
