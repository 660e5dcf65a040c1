use Rattle.std.proofs.Common.{◌≡◌, ◌+◌, ◌-◌, ◌*◌, ◌^◌, ◌<◌, ◌≤◌}
use Rattle.bit_lists.specs.Bits.{bits_of}
use Rattle.bitm_tables.specs.Entry.{lower_entry}
use Rattle.bitm_select.specs.Search.{items_to, sought_in}
use Rattle.bitm_strategies.proofs.walking.walk.Given as goal

-- the entry before this one has no more than the rank before it and is kept, and one read for each entry so far
abbrev pub invariant-loop-next : goal.invariant-loop-next
invariant-loop-next g l =
    let T = g.T.TableSource in
    let b = bits_of (T.lists l.fn.source).words in
    record {
      order : l.from < l.next;
      bound : l.next ≤ l.end;
      at_most : items_to g.row.BIT b l.part (l.next - 1) ≤ l.rank;
      packed : l.packed ≡ lower_entry (sought_in g.row.BIT (T.lists l.fn.source).words) (l.part * 2 ^ 21 + (l.next - 1));
      lower : (T.reads l.source).lower + l.from ≡ (T.reads l.fn.source).lower + l.next;
      upper : (T.reads l.source).upper ≡ (T.reads l.fn.source).upper;
      words : (T.reads l.source).words ≡ (T.reads l.fn.source).words;
      same : T.lists l.source ≡ T.lists l.fn.source;
    }
