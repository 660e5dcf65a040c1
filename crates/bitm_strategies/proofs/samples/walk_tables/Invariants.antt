use Rattle.std.proofs.Common.{◌-◌, ◌<◌, ◌≤◌, List, Bool}
use Rattle.bitm_strategies.specs.Samples.{IsSummaryOf}
use Rattle.bitm_select.specs.Search.{items_to}
use Rattle.bitm_strategies.proofs.samples.walk_tables.Given as goal

-- the entry before this one has no more than the item's number before it
abbrev pub invariant-loop-next : goal.invariant-loop-next
invariant-loop-next g l = record {
  order : l.from < l.next;
  bound : l.next ≤ l.end;
  at_most : (b : List Bool) → IsSummaryOf b l.summary → items_to g.row.BIT b l.part l.from ≤ l.item
      → items_to g.row.BIT b l.part (l.next - 1) ≤ l.item;
}
