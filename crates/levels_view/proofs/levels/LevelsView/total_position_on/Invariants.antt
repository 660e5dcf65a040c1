use Rattle.std.proofs.Common.{◌≡◌, ℕ, ◌-◌, ◌≤◌}
use Rattle.matrix_levels.specs.Levels.{level_position}
use Rattle.matrix_levels.specs.Matrix.{IsMatrix, OnlyRanks, numbers_in}
use Rattle.levels_view.proofs.levels.LevelsView.total_position_on.Given as goal

-- the position is inside, and in a matrix that of the number on this level; one rank was read for each level since the first
abbrev pub invariant-loop-depth : goal.invariant-loop-depth
invariant-loop-depth g l =
    let T = g.T.TableSource in
    let xs = numbers_in l.self (T.lists l.fn.source) in
    record {
      inside : l.at ≤ l.self.len;
      position : (p : ℕ) → IsMatrix l.self (T.lists l.fn.source) → l.position ≡ level_position xs l.self.width l.number l.from p
          → l.at ≡ level_position xs l.self.width l.number l.depth p;
      reads : OnlyRanks l.self T.lists T.reads l.fn.source l.source (l.depth - l.from);
    }
