-- Both have the least number, or none of the lists' shared numbers is there.
use Rattle.std.proofs.Common.{arith}
use Rattle.postings.proofs.meeting.write_shared.Goals as goal

pub returns-then-both-clause-meets : goal.returns-then-both-clause-meets
returns-then-both-clause-meets c = λ old now from was there none.
    c.write.ensures.meets old now from was (there c.if-both.true)
    (λ x l less all. let (_both, is) = none x l (omega (arith, less)) all in omega (arith, is, less))
