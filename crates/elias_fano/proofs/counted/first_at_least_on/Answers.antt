-- Right parts give the answer, and few numbers allow few selections.
use Rattle.std.proofs.Common.{ℕ, refl, sym, subst}
use Rattle.std.specs.Prelude.{Option}
use Rattle.elias_fano.proofs.lemmas.FoundLemmas.{found-first}
use Rattle.elias_fano.proofs.lemmas.ItemLemmas.{parts-lengths, upper-short}
use Rattle.elias_fano.proofs.lemmas.SelectionReadLemmas.{digits-allow}
use Rattle.elias_fano.specs.Sequence.{IsFirstAtLeast}
use Rattle.elias_fano.proofs.counted.first_at_least_on.Goals as goal

pub first_at_least_by-requires-clause-lengths : goal.first_at_least_by-requires-clause-lengths
first_at_least_by-requires-clause-lengths g c = parts-lengths _ _ _ _ _ c.requires.parts.1.are

pub first_at_least_by-requires-clause-sized : goal.first_at_least_by-requires-clause-sized
first_at_least_by-requires-clause-sized g c =
    c.tables_have_sizes.ensures _ c.requires.parts.1.tables
    (upper-short _ _ _ _ _ c.requires.parts.1.are)

pub returns-clause-answer : goal.returns-clause-answer
returns-clause-answer g c = λ xs h.
    let P : Option ℕ → Type 0 = IsFirstAtLeast xs c.args.v in
    subst P (sym c.found.ensures) (found-first xs c.args.v _ (c.first_at_least_by.ensures.answer xs h tt))

pub returns-clause-reads : goal.returns-clause-reads
returns-clause-reads g c =
    digits-allow _ _ c.args.n _ (λ few. c.first_at_least_by.ensures.few refl few) c.first_at_least_by.ensures.reads.at_most
