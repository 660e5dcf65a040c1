-- Where there is no entry in the middle the search stays.
use Rattle.std.proofs.Common.{◌+◌, arith}
use Rattle.bit_lists.specs.Count.{as_bit}
use Rattle.bitm_select.proofs.lemmas.ManyLemmas.{near_stays, part_stays}
use Rattle.bitm_select.proofs.lemmas.SearchLemmas.{step_few}
use Rattle.bitm_select.proofs.many.query.halve.Goals as goal

pub step-requires-clause-next : goal.step-requires-clause-next
step-requires-clause-next g c =
    omega (arith, step_few c.args.size c.requires.size, c.lower_len.ensures, c.if-next-lower_len.false)

pub returns-then-next-lower_len-clause-search : goal.returns-then-next-lower_len-clause-search
returns-then-next-lower_len-clause-search g c rank search_is =
    let lists = g.T.TableSource.lists c.args.source.now in
    let small = step_few c.args.size c.requires.size in
    record {
      entry = search_is.entry;
      in_part =
          part_stays (as_bit g.row.BIT) lists rank c.args.query.rest c.args.query.entry c.args.size (c.args.size + 1) (omega arith) search_is.in_part;
      near =
          λ t.
          near_stays g.row.BIT lists rank c.args.query.rest c.args.query.entry c.args.size (search_is.near t)
          (λ h. absurd (omega (arith, h, small, c.lower_len.ensures, c.if-next-lower_len.true)));
    }
