-- The cursor is at the first number.
use Rattle.std.proofs.Common.{refl, ◌∙◌}
use Rattle.bitm_numbers_c.proofs.CursorLemmas.{held_parts, started}
use Rattle.bitm_numbers_c.proofs.cursors.moving.bitm_cursor_start.Goals as goal

pub returns-in-Some-total_start_on-clause-started : goal.returns-in-Some-total_start_on-clause-started
returns-in-Some-total_start_on-clause-started c = λ sized xs h.
    let s = c.args.cursor.now.sequence in
    let is = started c.args.cursor.now c.stand_at.new.self c.in-Some-total_start_on.spot c.new-low.result c.probe.result.lists c.new-low.ensures
    (c.probe.ensures.lists ∙ c.in-Some.ensures.1) c.stand_at.ensures.sequence c.stand_at.ensures.spot xs
    (c.parts_hold_items.ensures xs s.len s.width s.low.now s.words.now h.are) sized h (c.in-Some-total_start_on.ensures.started xs) in
    (refl, is.0, is.1)

pub returns-in-None-clause-started : goal.returns-in-None-clause-started
returns-in-None-clause-started c = λ sized xs h.
    absurd (c.in-None.ensures.started xs
    (held_parts xs c.args.cursor.now.sequence _ _ c.new-low.ensures (c.probe.ensures.lists ∙ c.in-Some.ensures.1) h))
