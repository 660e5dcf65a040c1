-- The least number is written, and no list has one between.
use Rattle.postings.proofs.JoiningLemmas.{turn_joined}
use Rattle.postings.proofs.MeetingLemmas.{meeting_on, meeting_written}
use Rattle.postings.proofs.SharingLemmas.{keeps_all, keeps_less}
use Rattle.postings.proofs.pair.write.Goals as goal

pub returns-clause-joins : goal.returns-clause-joins
returns-clause-joins c = λ old now from was least.
    turn_joined old now now from c.args.count c.args.low c.args.least c.args.out.now was c.requires.room (least c.if-least-low.false) (keeps_all now c.args.low)

pub returns-clause-meets : goal.returns-clause-meets
returns-clause-meets c = λ old now from was there none.
    let order = c.if-least-low.false in
    meeting_written old now from c.args.count c.args.least c.args.out.now
    (meeting_on old now from c.args.count c.args.low c.args.out.now was now c.args.least order (keeps_less old now c.args.low c.args.least order was.keeps) none)
    c.requires.room (there order)
