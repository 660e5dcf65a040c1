use Rattle.std.proofs.Common.{◌≡◌, ℕ, ◌*◌, ◌<◌, ◌≤◌, length, get_or}
use Rattle.matrix_levels.specs.Matrix.{OnlyRanks}
use Rattle.levels_view.specs.Walk.{IsOnTheWay}
use Rattle.levels_view.proofs.levels.LevelsView.total_get_many_on.Given as goal

-- all stand on the level
abbrev pub invariant-loop-depth : goal.invariant-loop-depth
invariant-loop-depth g l =
    let T = g.T.TableSource in
    let n = length l.indices in
    record {
      few : l.depth ≤ l.self.width;
      positions_len : length l.positions ≡ n;
      numbers_len : length l.numbers ≡ n;
      each : (j : ℕ) → j < n → IsOnTheWay l.self (T.lists l.fn.source) l.depth (get_or l.indices j 0) (get_or l.positions j 0) (get_or l.numbers j 0);
      reads : OnlyRanks l.self T.lists T.reads l.fn.source l.source (l.depth * n);
    }
