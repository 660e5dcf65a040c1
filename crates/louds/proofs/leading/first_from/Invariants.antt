use Rattle.std.proofs.Common.{◌≡◌, ◌+◌, ◌-◌, ℕ, ◌<◌, ◌≤◌, get_or}
use Rattle.bit_lists.specs.Bits.{digit_count}
use Rattle.louds.specs.Leading.{Grow}
use Rattle.louds.proofs.leading.first_from.Given as goal

-- where the labels do not fall, those before `low` are less, and those from `high` on are not
abbrev pub invariant-loop-low : goal.invariant-loop-low
invariant-loop-low g l =
    let L = g.L.Labels in
    let old = L.seen l.fn.labels in
    let new = L.seen l.labels in
    let ls = L.listed old.words old.width l.len in
    record {
      from : l.first ≤ l.low;
      order : l.low ≤ l.high;
      to : l.high ≤ l.past;
      less : Grow ls l.first l.past → (v : ℕ) → l.first ≤ v → v < l.low → get_or ls v 0 < l.label;
      not_less : Grow ls l.first l.past → (v : ℕ) → l.high ≤ v → v < l.past → l.label ≤ get_or ls v 0;
      reads : new.read + digit_count (l.high - l.low) ≤ old.read + digit_count (l.past - l.first);
      words : new.words ≡ old.words;
      width : new.width ≡ old.width;
    }

abbrev pub decreases-loop-low : goal.decreases-loop-low
decreases-loop-low g l = l.high - l.low
