use Rattle.std.proofs.Common.{◌≡◌, ℕ, ◌^◌, ◌<◌, ◌≤◌, length, get_or}
use Rattle.bitm_tables.specs.Tables.{Lists}
use Rattle.levels_view.specs.Walk.{IsPositionOnTheWay}
use Rattle.levels_view.proofs.levels.LevelsView.begin_places.Given as goal

-- those so far begin
abbrev pub invariant-loop-k : goal.invariant-loop-k
invariant-loop-k l = record {
  firsts_len : length l.firsts ≡ length l.numbers;
  lasts_len : length l.lasts ≡ length l.numbers;
  starts : (j : ℕ) → j < l.k → (lists : Lists) → get_or l.numbers j 0 < 2 ^ l.self.width
      → IsPositionOnTheWay l.self lists l.self.known (get_or l.numbers j 0) 0 (get_or l.firsts j 0);
  ends : (j : ℕ) → j < l.k → get_or l.ends j 0 ≤ l.self.len → get_or l.lasts j 0 ≡ get_or l.ends j 0;
}
