use Rattle.std.proofs.Common.{◌≡◌, ◌+◌, ◌*◌, ◌%◌, ◌^◌, count_ones}
use Rattle.tree_block.specs.Check.{KeepsLead}
use Rattle.tree_block.proofs.checking.keeps_lead_by_bytes.Given as goal

-- the bytes so far keep the lead, and so much is left of it
abbrev pub invariant-loop-k : goal.invariant-loop-k
invariant-loop-k l = record {
  kept : KeepsLead l.word (8 * l.k) l.lead;
  same : l.left + 8 * l.k ≡ l.lead + 2 * count_ones (l.word % 2 ^ (8 * l.k));
}
