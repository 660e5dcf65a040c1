use Rattle.std.proofs.Common.{◌-◌}
use Rattle.levels_view.proofs.levels.LevelsView.+add_shared_on.Given as goal

-- the levels below
abbrev pub decreases-add_shared_on : goal.decreases-add_shared_on
decreases-add_shared_on g l = l.self.now.width - l.depth
