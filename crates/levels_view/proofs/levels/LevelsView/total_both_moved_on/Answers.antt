-- Both positions move one level on.
use Rattle.std.proofs.Common.{◌+◌, subst, sym}
use Rattle.bitm_tables.specs.Tables.{Lists}
use Rattle.levels_view.specs.Walk.{IsPositionOnTheWay}
use Rattle.levels_view.proofs.levels.LevelsView.total_both_moved_on.Goals as goal

pub returns-clause-moved : goal.returns-clause-moved
returns-clause-moved g c = λ s e w.
    let l = c.args.self.now in
    let d = c.args.depth in
    let v = c.args.number in
    let same = c.total_position_moved_on-next.ensures.reads.same in
    let first = c.total_position_moved_on-next.ensures.moved s (record { inside = w.first_in; position = w.first }) in
    let P = λ (m : Lists). IsPositionOnTheWay l m d v e c.args.last in
    let Q = λ (m : Lists). IsPositionOnTheWay l m (d + 1) v e c.total_position_moved_on-after.result in
    let last = subst Q same (c.total_position_moved_on-after.ensures.moved e (subst P (sym same) (record { inside = w.last_in; position = w.last }))) in
    record { first_in = first.inside; last_in = last.inside; first = first.position; last = last.position }
