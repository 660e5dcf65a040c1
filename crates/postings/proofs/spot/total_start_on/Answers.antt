-- The first number is the first that is at least 0.
use Rattle.std.proofs.Common.{refl}
use Rattle.postings.proofs.MoveLemmas.{started_found, started_none}
use Rattle.postings.proofs.spot.total_start_on.Goals as goal

pub returns-in-Found-clause-started : goal.returns-in-Found-clause-started
returns-in-Found-clause-started g c = λ xs h.
    let is = c.in-Found.ensures.far xs h in
    started_found xs (g.T.TableSource.lists c.args.source.now).words c.args.n c.in-Found.spot h.are.count is.0 is.1

pub returns-in-Absent-clause-started : goal.returns-in-Absent-clause-started
returns-in-Absent-clause-started g c = λ xs h.
    started_none xs (g.T.TableSource.lists c.args.source.now).words c.args.n (record { at = c.args.n; one = 0; number = 0 }) h.are.count refl (c.in-Absent.ensures.far xs h)
