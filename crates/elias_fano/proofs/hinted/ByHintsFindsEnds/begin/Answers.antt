-- Behind a zero to which a hint leads begin those with one more before them.
use Rattle.std.proofs.Common.{arith}
use Rattle.elias_fano.proofs.lemmas.EndsLemmas.{begin-there, found-short}
use Rattle.elias_fano.proofs.hinted.ByHintsFindsEnds.begin.Goals as goal

pub returns-then-above-eq0-clause-begin : goal.returns-then-above-eq0-clause-begin
returns-then-above-eq0-clause-begin g c = λ xs l h f. begin-there _ _ c.if-above-eq0.true

pub begin_behind-requires : goal.begin_behind-requires
begin_behind-requires g c = found-short _ _ c.requires.short c.hinted_select_on.ensures.bit

pub returns-clause-begin : goal.returns-clause-begin
returns-clause-begin g c = λ xs l h f.
    c.begin_behind.ensures.begin xs l (g.T.TableSource.lists c.args.source.now) _ h.upper (omega (arith, c.if-above-eq0.false))
    (c.hinted_select_on.ensures.answer h.tables f)

pub returns-clause-claimed : goal.returns-clause-claimed
returns-clause-claimed g c = λ _.
    c.begin_behind.ensures.claimed (g.T.TableSource.lists c.args.source.now) c.args._n _ (omega (arith, c.if-above-eq0.false))
    c.ranges.above.fits c.hinted_select_on.ensures.bit c.hinted_select_on.ensures.none
