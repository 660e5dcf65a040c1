-- Fewer halvings are enough where there are few entries.
use Rattle.std.proofs.Common.{◌≤◌, length, slice_index, slice_index_or, refl, arith}
use Rattle.std.proofs.lemmas.Nat.{mul-le}
use Rattle.bitm_select.proofs.lemmas.ManyLemmas.{near_enough, part_stays}
use Rattle.bit_lists.specs.Count.{as_bit}
use Rattle.bitm_select.proofs.many.query.halve_all.Goals as goal

pub loop-size-init : goal.loop-size-init
loop-size-init g c =
    let lists = g.T.TableSource.lists c.args.source.now in
    let queries = c.args.queries.now in
    let n = length c.args.ranks.now in
    let size = c.halvings-size.result in
    let i = c.requires.searches in
    record {
      size = c.halvings-size.ensures.most;
      searches =
          record {
            enough = i.enough;
            each =
                λ k d h.
                record {
                  entry = (i.each k d h).entry;
                  in_part =
                      part_stays (as_bit g.row.BIT) lists (slice_index c.args.ranks.now k) (slice_index_or queries k d).rest
                      (slice_index_or queries k d).entry size 21 c.halvings-size.ensures.most (i.each k d h).in_part;
                  near =
                      λ t.
                      near_enough g.row.BIT lists (slice_index c.args.ranks.now k) (slice_index_or queries k d).rest
                      (slice_index_or queries k d).entry size ((i.each k d h).near t) c.halvings-size.ensures.most
                      (λ few. omega (arith, c.halvings-size.ensures.enough few, c.lower_len.ensures));
                };
          };
      upper = omega arith;
      upper_kept = omega arith;
      lower = omega (arith, mul-le size n 21 n c.halvings-size.ensures.most (omega arith));
      few =
          λ few.
          let least : size ≤ 18 = c.halvings-size.ensures.least (omega (arith, few, c.lower_len.ensures)) in
          omega (arith, mul-le size n 18 n least (omega arith));
      words = omega arith;
      lower_kept = omega arith;
      words_kept = omega arith;
      same = refl;
    }
