use Rattle.std.proofs.Common.{◌≡◌, ℕ, ◌+◌, ◌*◌, ◌^◌, ◌<◌, ◌≤◌, length, get_or}
use Rattle.matrix_levels.specs.Matrix.{OnlyRanks}
use Rattle.levels_view.specs.Walk.{AreBothOnTheWay}
use Rattle.levels_view.proofs.levels.LevelsView.total_positions_level_on.Given as goal

-- those so far stand on the next level
abbrev pub invariant-loop-k : goal.invariant-loop-k
invariant-loop-k g l =
    let T = g.T.TableSource in
    record {
      firsts_len : length l.firsts ≡ length l.numbers;
      lasts_len : length l.lasts ≡ length l.numbers;
      done : (j : ℕ) → j < l.k → get_or l.ends j 0 ≤ l.self.len → get_or l.numbers j 0 < 2 ^ l.self.width
          → AreBothOnTheWay l.self (T.lists l.fn.source) (l.depth + 1) (get_or l.numbers j 0) 0 (get_or l.ends j 0) (get_or l.firsts j 0) (get_or l.lasts j 0);
      rest : (j : ℕ) → l.k ≤ j → j < length l.numbers → get_or l.ends j 0 ≤ l.self.len → get_or l.numbers j 0 < 2 ^ l.self.width
          → AreBothOnTheWay l.self (T.lists l.fn.source) l.depth (get_or l.numbers j 0) 0 (get_or l.ends j 0) (get_or l.firsts j 0) (get_or l.lasts j 0);
      reads : OnlyRanks l.self T.lists T.reads l.fn.source l.source (2 * l.k);
    }
