-- The number that was found near is the next.
use Rattle.bitm_numbers_c.proofs.CursorLemmas.{near_moves}
use Rattle.bitm_numbers_c.proofs.cursors.cursor.Cursor.near.Goals as goal

pub returns-clause-near : goal.returns-clause-near
returns-clause-near c =
    near_moves c.args.self.now c.spot.result c.args.v c.new-low.result c.near_in_word.result c.new-low.ensures c.spot.ensures c.if-self.false c.requires
    c.near_in_word.ensures.near
