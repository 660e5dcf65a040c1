use Rattle.std.proofs.Common.{◌≡◌, ◌+◌, ◌-◌, ◌*◌, ◌^◌, ◌<◌, ◌≤◌, length}
use Rattle.bit_lists.specs.Bits.{digit_count}
use Rattle.bit_lists.specs.Count.{as_bit}
use Rattle.bitm_select.specs.Search.{IsEntryAmong, sought_in}
use Rattle.bitm_tables.specs.Tables.{HasTables}
use Rattle.bitm_select.specs.Claims.{claimed_entry}
use Rattle.bitm_select.proofs.search.entry_range.last_in_range.Given as goal

-- some entry of the range is left, and where the last one is if the tables are right; no more reads than halvings; the
-- first entry of the part is left to read
abbrev pub invariant-loop-left : goal.invariant-loop-left
invariant-loop-left g l =
    let T = g.T.TableSource in
    let lists = T.lists l.fn.source in
    let m = sought_in g.row.BIT lists.words in
    record {
      some : 0 < l.left;
      from : l.fn.range.low ≤ l.low;
      to : l.low + l.left ≤ l.fn.range.low + l.fn.range.left;
      among : HasTables lists → IsEntryAmong m (length lists.lower) l.part l.rank l.low l.left;
      packed : 0 < l.low → l.packed ≡ claimed_entry (as_bit g.row.BIT) lists (l.part * 2 ^ 21 + l.low);
      lower : (T.reads l.source).lower + digit_count (l.left - 1) ≤ (T.reads l.fn.source).lower + digit_count (l.fn.range.left - 1);
      lower_kept : (T.reads l.fn.source).lower ≤ (T.reads l.source).lower;
      upper : (T.reads l.source).upper ≡ (T.reads l.fn.source).upper;
      words : (T.reads l.source).words ≡ (T.reads l.fn.source).words;
      same : T.lists l.source ≡ T.lists l.fn.source;
    }

abbrev pub decreases-loop-left : goal.decreases-loop-left
decreases-loop-left g l = l.left
