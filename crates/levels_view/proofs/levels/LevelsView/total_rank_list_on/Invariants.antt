use Rattle.std.proofs.Common.{◌≡◌, ℕ, ◌-◌, ◌*◌, ◌<◌, ◌≤◌, length, slice_index}
use Rattle.bitm_tables.specs.declared.answer.Answer.TheVariants.{Found}
use Rattle.matrix_levels.specs.Matrix.{OnlyRanks}
use Rattle.levels_view.specs.Walk.{IsRankAt}
use Rattle.levels_view.proofs.levels.LevelsView.total_rank_list_on.Given as goal

-- the ranks so far, and what stood behind them
abbrev pub invariant-loop-from : goal.invariant-loop-from
invariant-loop-from g l =
    let T = g.T.TableSource in
    record {
      inside : l.from ≤ length l.numbers;
      len : length l.out ≡ length l.fn.out;
      ranks : (j : ℕ) → j < l.from
          → IsRankAt l.self (T.lists l.fn.source) (slice_index l.numbers j) (slice_index l.ends j) (Found (slice_index l.out j));
      behind : (j : ℕ) → l.from ≤ j → slice_index l.out j ≡ slice_index l.fn.out j;
      reads : OnlyRanks l.self T.lists T.reads l.fn.source l.source ((2 * l.self.width - l.self.known) * l.from);
    }

abbrev pub decreases-loop-from : goal.decreases-loop-from
decreases-loop-from g l = length l.numbers - l.from
