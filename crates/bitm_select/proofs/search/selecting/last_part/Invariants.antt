use Rattle.std.proofs.Common.{◌≡◌, ◌+◌, ◌-◌, ◌*◌, ◌^◌, ◌<◌, ◌≤◌, length}
use Rattle.bit_lists.specs.Bits.{digit_count}
use Rattle.bit_lists.specs.Count.{ones_before}
use Rattle.bitm_select.specs.Search.{Between, sought_in}
use Rattle.bitm_tables.specs.Tables.{IsIndexed}
use Rattle.bitm_select.proofs.search.selecting.last_part.Given as goal

-- some part is left, and where the last one is if the tables are right; no more reads than halvings
abbrev pub invariant-loop-left : goal.invariant-loop-left
invariant-loop-left g l =
    let T = g.T.TableSource in
    let lists = T.lists l.fn.source in
    let digits = digit_count (length lists.upper) in
    record {
      some : 0 < l.left;
      bound : l.low + l.left ≤ length lists.upper;
      search :
          IsIndexed lists → Between (λ k. ones_before (sought_in g.row.BIT lists.words) (k * 2 ^ 32)) (length lists.upper) l.rank l.low l.left;
      upper : (T.reads l.source).upper + digit_count (l.left - 1) ≤ (T.reads l.fn.source).upper + digits;
      upper_kept : (T.reads l.fn.source).upper ≤ (T.reads l.source).upper;
      lower : (T.reads l.source).lower ≡ (T.reads l.fn.source).lower;
      words : (T.reads l.source).words ≡ (T.reads l.fn.source).words;
      same : T.lists l.source ≡ T.lists l.fn.source;
    }

abbrev pub decreases-loop-left : goal.decreases-loop-left
decreases-loop-left g l = l.left
