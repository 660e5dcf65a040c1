use Rattle.std.proofs.Common.{◌≡◌, ℕ, ◌<◌, ◌≤◌, length, slice_index}
use Rattle.bitm_tables.specs.declared.answer.Answer.TheVariants.{Found}
use Rattle.levels_view.specs.Walk.{IsRankAt}
use Rattle.levels_view.proofs.levels.LevelsView.total_rank_with_on.Given as goal

-- the ranks so far, and what stood behind them
abbrev pub invariant-loop-k : goal.invariant-loop-k
invariant-loop-k g l = record {
  len : length l.out ≡ length l.fn.out;
  ranks : (j : ℕ) → j < l.k
      → IsRankAt l.self (g.T.TableSource.lists l.fn.source) (slice_index l.numbers j) (slice_index l.ends j) (Found (slice_index l.out j));
  behind : (j : ℕ) → l.k ≤ j → slice_index l.out j ≡ slice_index l.fn.out j;
}
