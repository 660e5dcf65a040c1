use Rattle.std.proofs.Common.{◌≡◌, ℕ, ◌+◌, ◌-◌, ◌*◌, ◌^◌, ◌<◌, ◌≤◌, length, get_or}
use Rattle.matrix_levels.specs.Matrix.{OnlyRanks}
use Rattle.levels_view.specs.Walk.{AreBothOnTheWay}
use Rattle.levels_view.proofs.levels.LevelsView.total_positions_of_many_on.Given as goal

-- all stand on the level
abbrev pub invariant-loop-depth : goal.invariant-loop-depth
invariant-loop-depth g l =
    let T = g.T.TableSource in
    let n = length l.numbers in
    record {
      from : l.self.known ≤ l.depth;
      few : l.depth ≤ l.self.width;
      firsts_len : length l.firsts ≡ n;
      lasts_len : length l.lasts ≡ n;
      each : (j : ℕ) → j < n → get_or l.ends j 0 ≤ l.self.len → get_or l.numbers j 0 < 2 ^ l.self.width
          → AreBothOnTheWay l.self (T.lists l.fn.source) l.depth (get_or l.numbers j 0) 0 (get_or l.ends j 0) (get_or l.firsts j 0) (get_or l.lasts j 0);
      reads : OnlyRanks l.self T.lists T.reads l.fn.source l.source (l.self.known * n + 2 * ((l.depth - l.self.known) * n));
    }
