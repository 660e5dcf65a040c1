use Rattle.std.proofs.Common.{◌≡◌, ℕ, ◌-◌, ◌*◌, ◌≤◌}
use Rattle.matrix_levels.specs.Levels.{level_position}
use Rattle.matrix_levels.specs.Matrix.{IsMatrix, OnlyRanks, numbers_in}
use Rattle.levels_view.proofs.levels.LevelsView.total_positions_on.Given as goal

-- both positions are inside, and in a matrix those of the number on this level; two ranks were read for each level since the first
abbrev pub invariant-loop-depth : goal.invariant-loop-depth
invariant-loop-depth g l =
    let T = g.T.TableSource in
    let lists = T.lists l.fn.source in
    let xs = numbers_in l.self lists in
    record {
      first_inside : l.first ≤ l.self.len;
      second_inside : l.second ≤ l.self.len;
      first_is : (p : ℕ) → IsMatrix l.self lists → l.start ≡ level_position xs l.self.width l.number l.from p
          → l.first ≡ level_position xs l.self.width l.number l.depth p;
      second_is : (p : ℕ) → IsMatrix l.self lists → l.end ≡ level_position xs l.self.width l.number l.from p
          → l.second ≡ level_position xs l.self.width l.number l.depth p;
      reads : OnlyRanks l.self T.lists T.reads l.fn.source l.source (2 * (l.depth - l.from));
    }
