-- The entry of the known bits says where a number starts, which is inside.
use Rattle.std.proofs.Common.{◌≡◌, get_or, sym, ap, ◌∙◌, arith}
use Rattle.matrix_levels.specs.Levels.{level_position}
use Rattle.matrix_levels.proofs.lemmas.WalkLemmas.{level_position-inside}
use Rattle.levels_view.proofs.levels.LevelsView.start_at.Goals as goal

pub returns-else-start-len-clause-start : goal.returns-else-start-len-clause-start
returns-else-start-len-clause-start c = λ xs b x h fit begin.
    let l = c.args.self.now in
    let is : get_or l.starts c.args.begin 0 ≡ level_position xs l.width x l.known 0 =
    ap (λ k. get_or l.starts k 0) (sym begin) ∙ h.starts_are x fit in
    absurd (omega (
      arith,
      is,
      ap (λ s. get_or s c.args.begin 0) c.starts.ensures.starts,
      level_position-inside xs l.width x l.known 0 (omega arith),
      h.count,
      c.len.ensures.len,
      c.if-start-len.false,
    ))
