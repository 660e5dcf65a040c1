use Rattle.std.proofs.Common.{◌≡◌, ℕ, ◌<◌, length, get_or}
use Rattle.matrix_levels.specs.Matrix.{OnlyRanks}
use Rattle.levels_view.specs.Walk.{IsOnTheWay}
use Rattle.levels_view.proofs.levels.LevelsView.total_first_level_on.Given as goal

-- those so far stand on the next level
abbrev pub invariant-loop-k : goal.invariant-loop-k
invariant-loop-k g l =
    let T = g.T.TableSource in
    record {
      positions_len : length l.positions ≡ length l.indices;
      numbers_len : length l.numbers ≡ length l.indices;
      done : (j : ℕ) → j < l.k → IsOnTheWay l.self (T.lists l.fn.source) 1 (get_or l.indices j 0) (get_or l.positions j 0) (get_or l.numbers j 0);
      reads : OnlyRanks l.self T.lists T.reads l.fn.source l.source l.k;
    }
