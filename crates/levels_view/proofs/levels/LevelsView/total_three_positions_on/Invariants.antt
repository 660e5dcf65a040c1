use Rattle.std.proofs.Common.{◌≡◌, ◌+◌, ◌-◌, ◌*◌, ◌≤◌}
use Rattle.matrix_levels.specs.Levels.{level_position}
use Rattle.matrix_levels.specs.Matrix.{IsMatrix, OnlyRanks, numbers_in}
use Rattle.levels_view.proofs.levels.LevelsView.total_three_positions_on.Given as goal

-- the three positions are inside, and in a matrix those of the number on this level; two ranks were read for each level that
-- is known, and three for each other
abbrev pub invariant-loop-depth : goal.invariant-loop-depth
invariant-loop-depth g l =
    let T = g.T.TableSource in
    let lists = T.lists l.fn.source in
    let xs = numbers_in l.self lists in
    let w = l.self.width in
    let known = l.self.known in
    record {
      base_inside : l.base ≤ l.self.len;
      first_inside : l.first ≤ l.self.len;
      last_inside : l.last ≤ l.self.len;
      base_is : IsMatrix l.self lists → l.base ≡ level_position xs w l.number l.depth 0;
      first_is : IsMatrix l.self lists → l.first ≡ level_position xs w l.number l.depth l.start;
      last_is : IsMatrix l.self lists → l.last ≡ level_position xs w l.number l.depth l.end;
      reads : OnlyRanks l.self T.lists T.reads l.fn.source l.source (2 * known + 3 * (l.depth - known));
    }
