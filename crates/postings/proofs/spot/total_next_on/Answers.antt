-- The spot stays, or moves to the number that was found, or to the end.
use Rattle.std.proofs.Common.{refl}
use Rattle.postings.proofs.MoveLemmas.{move_stays, move_found, move_ended}
use Rattle.postings.proofs.spot.total_next_on.Goals as goal

pub returns-then-spot-v-clause-next : goal.returns-then-spot-v-clause-next
returns-then-spot-v-clause-next g c = λ xs h.
    move_stays xs (g.T.TableSource.lists c.args.source.now).words c.args.n c.args.v c.args.spot.now h.are.sequence.rising h.are.count c.if-spot-n.false c.if-spot-v.true

pub returns-in-Found-clause-next : goal.returns-in-Found-clause-next
returns-in-Found-clause-next g c = λ xs h.
    move_found xs (g.T.TableSource.lists c.args.source.now).words c.args.n c.args.v c.args.spot.now h.are.sequence.rising h.are.count c.in-Found.found c.if-spot-n.false c.if-spot-v.false
    (c.in-Found.ensures.far xs h)

pub returns-in-Absent-clause-next : goal.returns-in-Absent-clause-next
returns-in-Absent-clause-next g c = λ xs h.
    move_ended xs (g.T.TableSource.lists c.args.source.now).words c.args.n c.args.v c.args.spot.now h.are.sequence.rising h.are.count
    (record { at = c.args.n; one = c.args.spot.now.one; number = c.args.spot.now.number }) refl c.if-spot-n.false (c.in-Absent.ensures.far xs h)
