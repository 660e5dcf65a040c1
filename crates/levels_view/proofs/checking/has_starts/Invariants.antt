use Rattle.std.proofs.Common.{◌≡◌, ℕ, ◌-◌, ◌*◌, ◌^◌, ◌<◌, slice_index}
use Rattle.bitm_tables.specs.Tables.{bits_in}
use Rattle.matrix_levels.specs.Levels.{level_position}
use Rattle.matrix_levels.specs.Matrix.{level_items}
use Rattle.levels_view.proofs.checking.has_starts.Given as goal

-- the starts so far are right, and the words are those that were given
abbrev pub invariant-loop-begin : goal.invariant-loop-begin
invariant-loop-begin g l =
    let T = g.T.TableSource in
    let v = l.levels in
    record {
      right : (h : ℕ) → h < l.begin
          → slice_index v.starts h
          ≡ level_position (level_items (bits_in (T.lists l.fn.source)) v.width v.len) v.width (h * 2 ^ (v.width - v.known)) v.known 0;
      same : T.lists l.source ≡ T.lists l.fn.source;
    }
