use Rattle.std.proofs.Common.{◌≡◌, ℕ, ◌-◌, ◌*◌, ◌<◌, ◌≤◌, length, slice_index}
use Rattle.bitm_tables.specs.declared.answer.Answer.TheVariants.{Found}
use Rattle.matrix_levels.specs.Matrix.{OnlyRanks}
use Rattle.levels_view.specs.Walk.{IsNumberAt}
use Rattle.levels_view.proofs.levels.LevelsView.total_get_list_on.Given as goal

-- the numbers so far, and what stood behind them
abbrev pub invariant-loop-from : goal.invariant-loop-from
invariant-loop-from g l =
    let T = g.T.TableSource in
    record {
      inside : l.from ≤ length l.indices;
      len : length l.out ≡ length l.fn.out;
      numbers : (j : ℕ) → j < l.from → IsNumberAt l.self (T.lists l.fn.source) (slice_index l.indices j) (Found (slice_index l.out j));
      behind : (j : ℕ) → l.from ≤ j → slice_index l.out j ≡ slice_index l.fn.out j;
      reads : OnlyRanks l.self T.lists T.reads l.fn.source l.source (l.self.width * l.from);
    }

abbrev pub decreases-loop-from : goal.decreases-loop-from
decreases-loop-from g l = length l.indices - l.from
