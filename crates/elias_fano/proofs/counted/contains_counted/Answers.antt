-- Right parts give the answer.
use Rattle.elias_fano.proofs.lemmas.ItemLemmas.{parts-lengths, upper-short}
use Rattle.elias_fano.proofs.counted.contains_counted.Goals as goal

pub contains_by-requires-clause-lengths : goal.contains_by-requires-clause-lengths
contains_by-requires-clause-lengths g c = parts-lengths _ _ _ _ _ c.requires.parts.1.are

pub contains_by-requires-clause-sized : goal.contains_by-requires-clause-sized
contains_by-requires-clause-sized g c =
    c.tables_have_sizes.ensures _ c.requires.parts.1.tables
    (upper-short _ _ _ _ _ c.requires.parts.1.are)

pub returns-clause-answer : goal.returns-clause-answer
returns-clause-answer g c = λ xs h. c.in-Some.ensures.answer xs h tt
