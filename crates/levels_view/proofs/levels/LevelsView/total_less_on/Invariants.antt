use Rattle.std.proofs.Common.{◌≡◌, ◌+◌, ◌*◌, ◌-◌, ◌/◌, ◌^◌, ◌≤◌, count_by, slice_range}
use Rattle.matrix_levels.specs.Levels.{has_lesser_prefix, level_position}
use Rattle.matrix_levels.specs.Matrix.{IsMatrix, OnlyRanks, numbers_in}
use Rattle.levels_view.proofs.levels.LevelsView.total_less_on.Given as goal

-- the range is inside, and no more are counted or left than it had; in a matrix it has what begins as the bound does, and
-- what begins with less is counted
abbrev pub invariant-loop-depth : goal.invariant-loop-depth
invariant-loop-depth g l =
    let T = g.T.TableSource in
    let lists = T.lists l.fn.source in
    let xs = numbers_in l.self lists in
    let w = l.self.width in
    record {
      order : l.first ≤ l.last;
      inside : l.last ≤ l.self.len;
      most : l.count + (l.last - l.first) ≤ l.end - l.start;
      first_is : IsMatrix l.self lists → l.first ≡ level_position xs w l.bound l.depth l.start;
      last_is : IsMatrix l.self lists → l.last ≡ level_position xs w l.bound l.depth l.end;
      less : IsMatrix l.self lists
          → l.count ≡ count_by (has_lesser_prefix (w - l.depth) (l.bound / 2 ^ (w - l.depth))) (slice_range xs l.start l.end);
      reads : OnlyRanks l.self T.lists T.reads l.fn.source l.source (2 * l.depth);
    }
