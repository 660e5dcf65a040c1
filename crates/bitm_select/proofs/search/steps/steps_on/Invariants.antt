use Rattle.std.proofs.Common.{◌≡◌, ◌+◌, ◌*◌, ◌^◌, ◌<◌, ◌≤◌, length}
use Rattle.bit_lists.specs.Count.{as_bit}
use Rattle.bitm_tables.specs.Entry.{before_in_part, entries_from}
use Rattle.bitm_select.specs.Search.{sought_in}
use Rattle.bitm_tables.specs.Tables.{HasTables}
use Rattle.bitm_select.specs.Claims.{claimed_entry}
use Rattle.bitm_select.proofs.search.steps.steps_on.Given as goal

-- the entry that is reached is kept, and has no more than the rank before it if the tables are right; one read for each
abbrev pub invariant-loop-k : goal.invariant-loop-k
invariant-loop-k g l =
    let T = g.T.TableSource in
    let lists = T.lists l.fn.source in
    record {
      at : l.at + l.k < entries_from (length lists.lower) l.part;
      few : l.k ≤ 4;
      at_most : HasTables lists → before_in_part (sought_in g.row.BIT lists.words) (l.part * 2 ^ 21 + (l.at + l.k)) ≤ l.rank;
      packed : l.packed ≡ claimed_entry (as_bit g.row.BIT) lists (l.part * 2 ^ 21 + (l.at + l.k));
      lower : (T.reads l.source).lower ≡ (T.reads l.fn.source).lower + l.k;
      upper : (T.reads l.source).upper ≡ (T.reads l.fn.source).upper;
      words : (T.reads l.source).words ≡ (T.reads l.fn.source).words;
      same : T.lists l.source ≡ lists;
    }
