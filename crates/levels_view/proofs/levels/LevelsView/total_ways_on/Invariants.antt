use Rattle.std.proofs.Common.{◌≡◌, ℕ, ◌-◌, ◌*◌, ◌/◌, ◌^◌, ◌<◌, ◌≤◌}
use Rattle.std.specs.Prelude.{slice_index}
use Rattle.matrix_levels.specs.Levels.{level_position}
use Rattle.matrix_levels.specs.Matrix.{IsMatrix, OnlyRanks, numbers_in}
use Rattle.matrix_levels.proofs.lemmas.ManyLemmas.{IsAtLevel}
use Rattle.levels_view.proofs.levels.LevelsView.total_ways_on.Given as goal

-- the item stands inside, its bits so far fit, and in a matrix they are those of the number, whose first position on this
-- level is the base; two ranks were read for each level since those that are known
abbrev pub invariant-loop-depth : goal.invariant-loop-depth
invariant-loop-depth g l =
    let T = g.T.TableSource in
    let lists = T.lists l.fn.source in
    let xs = numbers_in l.self lists in
    let w = l.self.width in
    let known = l.self.known in
    record {
      inside : l.at < l.self.len;
      base_inside : l.base ≤ l.self.len;
      small : l.found < 2 ^ l.depth;
      number : (i : ℕ) → IsMatrix l.self lists → i < l.self.len → l.position ≡ level_position xs w (slice_index xs i) known i
          → l.number ≡ slice_index xs i / 2 ^ (w - known) → IsAtLevel xs w l.depth i l.at l.found;
      base_is : (i : ℕ) → IsMatrix l.self lists → i < l.self.len → l.position ≡ level_position xs w (slice_index xs i) known i
          → l.number ≡ slice_index xs i / 2 ^ (w - known) → l.base ≡ level_position xs w (slice_index xs i) l.depth 0;
      reads : OnlyRanks l.self T.lists T.reads l.fn.source l.source (2 * (l.depth - known));
    }
