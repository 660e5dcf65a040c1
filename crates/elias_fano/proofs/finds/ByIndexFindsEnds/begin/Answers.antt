-- Behind a zero of the index begin those with one more before them; where there is none, all have less.
use Rattle.std.proofs.Common.{arith}
use Rattle.elias_fano.proofs.lemmas.EndsLemmas.{begin-next, begin-there, below-all}
use Rattle.elias_fano.proofs.finds.ByIndexFindsEnds.begin.Goals as goal

pub returns-then-above-eq0-clause-begin : goal.returns-then-above-eq0-clause-begin
returns-then-above-eq0-clause-begin g c = λ xs l h f. begin-there _ _ c.if-above-eq0.true

pub returns-in-Some-clause-begin : goal.returns-in-Some-clause-begin
returns-in-Some-clause-begin g c = λ xs l h f.
    begin-next _ _ _ _ f (omega (arith, c.if-above-eq0.false)) c.in-Some.ensures

pub returns-in-None-clause-begin : goal.returns-in-None-clause-begin
returns-in-None-clause-begin g c = λ xs l h f.
    below-all xs l _ _ _ h.upper f (omega (arith, c.if-above-eq0.false)) c.in-None.ensures
