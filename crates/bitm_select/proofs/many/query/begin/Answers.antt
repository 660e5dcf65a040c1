-- The part's first entry begins the search.
use Rattle.std.proofs.Common.{arith}
use Rattle.bitm_select.proofs.lemmas.ManyLemmas.{near_begins}
use Rattle.bitm_tables.proofs.lemmas.LengthLemmas.{few_entries, first_of_part}
use Rattle.bitm_select.proofs.many.query.begin.Goals as goal

pub overflow_mul-result : goal.overflow_mul-result
overflow_mul-result g c =
    record {
      fits =
          omega (
            arith,
            first_of_part _ c.requires.sized c.part_of_rank-part.result.0 c.part_of_rank-part.ensures.inside,
            few_entries _ c.requires.sized,
          );
    }

pub returns-clause-search : goal.returns-clause-search
returns-clause-search g c =
    let lists = g.T.TableSource.lists c.args.source.now in
    let part = c.part_of_rank-part.result.0 in
    let short = c.requires.sized.short in
    record {
      entry = first_of_part lists c.requires.sized part c.part_of_rank-part.ensures.inside;
      in_part =
          record {
            part = part;
            there = c.part_of_rank-part.ensures.inside;
            from = omega arith;
            to = omega arith;
            fits = c.part_of_rank-part.ensures.fits;
            rest = c.part_of_rank-part.ensures.claimed;
          };
      near =
          λ t.
          near_begins g.row.BIT lists c.args.rank c.part_of_rank-part.result.1 part t short
          (c.part_of_rank-part.ensures.part (record { tables = t; short = short }));
    }
