-- A cursor whose number is at least the value stays at it.
use Rattle.postings.proofs.MoveLemmas.{move_stays}
use Rattle.bitm_numbers_c.specs.Cursor.{sequence_items, spot_of}
use Rattle.bitm_numbers_c.proofs.cursors.cursor.CursorTotalCursor.total_next_geq.Goals as goal

pub returns-then-self-v-clause-next : goal.returns-then-self-v-clause-next
returns-then-self-v-clause-next c = λ r.
    let cursor = c.args.self.now in
    let are = r.parts.are in
    (move_stays (sequence_items cursor.sequence) cursor.sequence.words.now cursor.sequence.len c.args.v (spot_of cursor) are.sequence.rising are.count
    c.if-self.true c.if-self-v.true).next r.here
