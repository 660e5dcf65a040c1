use Rattle.std.proofs.Common.{◌≡◌, ℕ, ◌-◌, ◌*◌, ◌^◌, ◌<◌, length, get_or}
use Rattle.matrix_levels.specs.Levels.{level_position}
use Rattle.matrix_levels.specs.Matrix.{numbers_in}
use Rattle.levels_view.proofs.owned.Levels.keep_starts.Given as goal

-- the starts of the numbers so far
abbrev pub invariant-loop-begin : goal.invariant-loop-begin
invariant-loop-begin g l =
    let T = g.T.TableSource in
    let w = l.fn.self.width in
    record {
      count : length l.starts.items ≡ l.begin;
      starts : (h : ℕ) → h < l.begin
          → get_or l.starts.items h 0 ≡ level_position (numbers_in l.fn.self (T.lists l.fn.source)) w (h * 2 ^ (w - l.known)) l.known 0;
      same : T.lists l.source ≡ T.lists l.fn.source;
    }
