-- A spot has its one among the words, and a later number has its one later.
use Rattle.std.proofs.Common.{arith}
use Rattle.bit_lists.proofs.BitLaws.{bits_are_counted}
use Rattle.postings.proofs.MoveLemmas.{spot_later}
use Rattle.postings.proofs.near.seek_on.Goals as goal

pub returns-then-spot-words_len-clause-far : goal.returns-then-spot-words_len-clause-far
returns-then-spot-words_len-clause-far g c = λ xs h s.
    omega (arith, s.one.inside, c.words_len.ensures, c.if-spot-words_len.true, bits_are_counted (g.T.TableSource.lists c.args.source.now).words)

pub near_or_far_on-requires-clause-inside : goal.near_or_far_on-requires-clause-inside
near_or_far_on-requires-clause-inside g c =
    omega (arith, c.words_len.ensures, c.if-spot-words_len.false, bits_are_counted (g.T.TableSource.lists c.args.source.now).words)

pub returns-else-found-spot-clause-far : goal.returns-else-found-spot-clause-far
returns-else-found-spot-clause-far g c = λ xs h s.
    let is = c.in-Found.ensures.far xs h s in
    omega (arith, c.if-found-spot.false, spot_later xs (g.T.TableSource.lists c.args.source.now).words c.args.v c.args.spot c.in-Found.found h.are.sequence.rising s c.requires.less is.0 is.1)
