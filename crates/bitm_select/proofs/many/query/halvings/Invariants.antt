use Rattle.std.proofs.Common.{◌-◌, ◌^◌, ◌≤◌}
use Rattle.bitm_select.proofs.many.query.halvings.Given as goal

-- no more than all of a part, and no more than so many entries need
abbrev pub invariant-loop-size : goal.invariant-loop-size
invariant-loop-size l =
    record {
      most : l.size ≤ 21;
      least : l.entries ≤ 2 ^ 18 → l.size ≤ 18;
    }

abbrev pub decreases-loop-size : goal.decreases-loop-size
decreases-loop-size l = 21 - l.size
