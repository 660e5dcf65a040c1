use Rattle.std.proofs.Common.{◌≡◌, ℕ, ◌-◌, ◌/◌, ◌^◌, ◌<◌}
use Rattle.std.specs.Prelude.{slice_index}
use Rattle.matrix_levels.specs.Levels.{level_position}
use Rattle.matrix_levels.specs.Matrix.{IsMatrix, OnlyRanks, numbers_in}
use Rattle.matrix_levels.proofs.lemmas.ManyLemmas.{IsAtLevel}
use Rattle.levels_view.proofs.levels.LevelsView.total_way_on.Given as goal

-- the item stands inside, its bits so far fit, and in a matrix they are those of the number; one rank was read for each level
abbrev pub invariant-loop-depth : goal.invariant-loop-depth
invariant-loop-depth g l =
    let T = g.T.TableSource in
    let xs = numbers_in l.self (T.lists l.fn.source) in
    record {
      inside : l.at < l.self.len;
      small : l.found < 2 ^ l.depth;
      number : (i : ℕ) → IsMatrix l.self (T.lists l.fn.source) → i < l.self.len → l.position ≡ level_position xs l.self.width (slice_index xs i) l.from i
          → l.number ≡ slice_index xs i / 2 ^ (l.self.width - l.from) → IsAtLevel xs l.self.width l.depth i l.at l.found;
      reads : OnlyRanks l.self T.lists T.reads l.fn.source l.source (l.depth - l.from);
    }
