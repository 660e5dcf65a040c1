use Rattle.std.proofs.Common.{◌≡◌, ℕ, ◌<◌, ◌≤◌, length, slice_index}
use Rattle.bit_lists.specs.Count.{as_bit}
use Rattle.bitm_view.specs.Queries.{ranked_by, RanksIn}
use Rattle.bitm_view.proofs.view.IndexView.cut_ranks.Given as goal

-- the answers so far; the others are as they were
abbrev pub invariant-loop-at : goal.invariant-loop-at
invariant-loop-at g l = record {
  long : length l.out ≡ length l.positions;
  each : (j : ℕ) → j < l.at → RanksIn (as_bit g.row.BIT) l.self (slice_index l.positions j) (ranked_by (slice_index l.out j));
  rest : (j : ℕ) → l.at ≤ j → slice_index l.out j ≡ slice_index l.fn.out j;
}
