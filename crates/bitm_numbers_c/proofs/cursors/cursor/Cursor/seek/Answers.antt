-- The cursor moves as its spot.
use Rattle.std.proofs.Common.{◌∙◌, subst}
use Rattle.postings.specs.Moves.{IsAnswered, IsMove}
use Rattle.postings.specs.declared.spot.Spot.{Spot}
use Rattle.bitm_numbers_c.specs.Cursor.{left_in, IsRight}
use Rattle.bitm_numbers_c.proofs.CursorLemmas.{found_at_least, moved}
use Rattle.bitm_numbers_c.proofs.cursors.cursor.Cursor.seek.Goals as goal
use Rattle.bitm_numbers_c.proofs.cursors.cursor.Cursor.seek.Goals.{After-stand_at}

went : (c : After-stand_at) → IsRight c.args.self.now
    → IsAnswered (left_in c.args.self.now) c.args.v c.total_next_on-answer.result (left_in c.stand_at.new.self) × IsRight c.stand_at.new.self
went c =
    moved c.args.self.now c.stand_at.new.self c.total_next_on-answer.new.spot c.new-low.result c.probe.result.lists c.new-low.ensures
    (c.probe.ensures.lists ∙ c.requires.upper) c.stand_at.ensures.sequence c.stand_at.ensures.spot c.args.v c.total_next_on-answer.result
    (λ xs h. subst (λ (p : Spot). IsMove xs c.probe.result.lists.words c.args.self.now.sequence.len c.args.v p c.total_next_on-answer.result c.total_next_on-answer.new.spot)
    c.spot-spot.ensures (c.total_next_on-answer.ensures.next xs h))

pub returns-clause-next : goal.returns-clause-next
returns-clause-next c = λ r. (went (goal.at.returns-clause-next c).After-stand_at r).0

pub returns-clause-stays : goal.returns-clause-stays
returns-clause-stays c = λ r. (went (goal.at.returns-clause-stays c).After-stand_at r).1

pub returns-clause-at_least : goal.returns-clause-at_least
returns-clause-at_least c =
    found_at_least c.args.self.now.sequence.len c.args.v _ c.total_next_on-answer.result c.total_next_on-answer.new.spot c.total_next_on-answer.ensures.moves
