-- Where there is no such zero, no item has more above its low digits.
use Rattle.std.proofs.Common.{ℕ, false, sym, subst}
use Rattle.bitm_select.specs.Answers.{IsSelected}
use Rattle.bitm_tables.specs.Tables.{bits_in}
use Rattle.elias_fano.proofs.lemmas.BucketLemmas.{CountsTo-all}
use Rattle.elias_fano.specs.Buckets.{CountsTo}
use Rattle.elias_fano.proofs.finds.count_to.Goals as goal

pub returns-in-Absent-clause-count : goal.returns-in-Absent-clause-count
returns-in-Absent-clause-count c = λ xs l lists h n selected.
    let few = subst (IsSelected (bits_in lists) false c.args.above) c.in-Absent.is selected in
    let P : ℕ → Type 0 = CountsTo xs l c.args.above in
    subst P (sym n) (CountsTo-all xs l _ h c.args.above few)
