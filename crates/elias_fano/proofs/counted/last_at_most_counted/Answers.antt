-- Right parts give the answer.
use Rattle.std.proofs.Common.{ℕ, sym, subst}
use Rattle.std.specs.Prelude.{Option}
use Rattle.elias_fano.proofs.lemmas.FoundLemmas.{found-last}
use Rattle.elias_fano.proofs.lemmas.ItemLemmas.{parts-lengths, upper-short}
use Rattle.elias_fano.specs.Sequence.{IsLastAtMost}
use Rattle.elias_fano.proofs.counted.last_at_most_counted.Goals as goal

pub last_at_most_by-requires-clause-lengths : goal.last_at_most_by-requires-clause-lengths
last_at_most_by-requires-clause-lengths g c = parts-lengths _ _ _ _ _ c.requires.parts.1.are

pub last_at_most_by-requires-clause-sized : goal.last_at_most_by-requires-clause-sized
last_at_most_by-requires-clause-sized g c =
    c.tables_have_sizes.ensures _ c.requires.parts.1.tables
    (upper-short _ _ _ _ _ c.requires.parts.1.are)

pub returns-clause-answer : goal.returns-clause-answer
returns-clause-answer g c = λ xs h.
    let P : Option ℕ → Type 0 = IsLastAtMost xs c.args.v in
    subst P (sym c.found.ensures) (found-last xs c.args.v _ (c.last_at_most_by.ensures.answer xs h tt))
