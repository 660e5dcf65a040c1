use Rattle.std.proofs.Common.{◌≡◌, ◌%◌, ◌^◌, ◌≤◌, count_ones}
use Rattle.tree_block.specs.Check.{KeepsLead}
use Rattle.tree_block.proofs.checking.ones_of_part.Given as goal

-- the digits so far keep the lead, and their ones are counted
abbrev pub invariant-loop-j : goal.invariant-loop-j
invariant-loop-j l = record {
  kept : KeepsLead l.word l.j l.lead;
  ones : l.ones ≡ count_ones (l.word % 2 ^ l.j);
  few : l.ones ≤ l.j;
}
