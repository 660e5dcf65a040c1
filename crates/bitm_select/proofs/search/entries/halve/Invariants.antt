use Rattle.std.proofs.Common.{◌≡◌, ◌+◌, ◌^◌, ◌≤◌, length}
use Rattle.bitm_tables.specs.Entry.{entries_from}
use Rattle.bitm_select.specs.Search.{IsAmongIn}
use Rattle.bitm_tables.specs.Tables.{HasTables}
use Rattle.bitm_select.proofs.search.entries.halve.Given as goal

-- which entries are left, and one read for each halving
abbrev pub invariant-loop-size : goal.invariant-loop-size
invariant-loop-size g l =
    let T = g.T.TableSource in
    let lists = T.lists l.fn.source in
    record {
      down : l.to ≤ l.size;
      most : l.size ≤ l.from;
      room : l.low + 2 ^ l.size ≤ entries_from (length lists.lower) l.part;
      among : HasTables lists → IsAmongIn g.row.BIT lists l.part l.rank l.begin (2 ^ l.from)
          → IsAmongIn g.row.BIT lists l.part l.rank l.low (2 ^ l.size);
      lower : (T.reads l.source).lower + l.size ≤ (T.reads l.fn.source).lower + l.from;
      lower_kept : (T.reads l.fn.source).lower ≤ (T.reads l.source).lower;
      upper : (T.reads l.source).upper ≡ (T.reads l.fn.source).upper;
      words : (T.reads l.source).words ≡ (T.reads l.fn.source).words;
      same : T.lists l.source ≡ lists;
    }

abbrev pub decreases-loop-size : goal.decreases-loop-size
decreases-loop-size g l = l.size
