use Rattle.std.proofs.Common.{◌≡◌, ℕ, ◌+◌, ◌*◌, ◌<◌, length, get_or}
use Rattle.bit_lists.specs.Count.{ones_before, zeros_before}
use Rattle.levels_view.proofs.owned.Levels.new.Given as goal

-- the levels so far are in both tables
abbrev pub invariant-loop-depth : goal.invariant-loop-depth
invariant-loop-depth g l =
    let b = g.I.HasBits.bits l.index in
    record {
      ones_len : length l.ones.items ≡ l.depth;
      zeros_len : length l.zeros.items ≡ l.depth;
      ones : (d : ℕ) → d < l.depth → get_or l.ones.items d 0 ≡ ones_before b (d * l.len);
      zeros : (d : ℕ) → d < l.depth → zeros_before b (d * l.len) + get_or l.zeros.items d 0 ≡ zeros_before b (d * l.len + l.len);
    }
