use Rattle.std.proofs.Common.{ℕ, ◌-◌, ◌<◌}
use Rattle.bitm_selection.specs.Selection.{OnlySelectsBy}
use Rattle.matrix_levels.specs.Matrix.{level_in, IsMatrix}
use Rattle.matrix_levels.specs.Numbers.{PicksItem}
use Rattle.levels_view.proofs.levels.LevelsView.total_first_position_by.Given as goal

-- in a matrix where the number stands so many levels above the last, and as many selections were made
abbrev pub invariant-loop-up : goal.invariant-loop-up
invariant-loop-up g l =
    let T = g.T.TableSource in
    let lists = T.lists l.fn.source in
    record {
      inside : l.at < l.self.len;
      picked : (k : ℕ) → IsMatrix l.self lists → g.F.Finds.finds l.finder lists → PicksItem (level_in l.self lists l.self.width) l.number k l.position
          → PicksItem (level_in l.self lists (l.self.width - l.up)) l.number k l.at;
      reads : OnlySelectsBy T.lists T.reads l.fn.source l.source (g.F.Finds.most lists) l.up 0;
    }
