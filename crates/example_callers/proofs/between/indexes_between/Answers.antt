-- The first search left the source as it was, so the second finds in the same numbers.
use Rattle.std.proofs.Common.{slice_index, sym, subst, ⊎_elim, arith}
use Rattle.std.proofs.lemmas.Bool.{cases_lt}
use Rattle.bitm.specs.Tables.{Lists}
use Rattle.elias_fano.specs.SequenceParts.{parts_of, AreParts, Holds}
use Rattle.example_callers.proofs.between.indexes_between.Goals as goal

pub index_from-end-requires : goal.index_from-end-requires
index_from-end-requires g c =
    let P : Lists → Type 0 = λ l. AreParts (parts_of c.args.n c.args.width c.args.low.now l) in
    subst P (sym c.index_from-begin.ensures.reads.same) c.requires

pub returns-clause-between : goal.returns-clause-between
returns-clause-between g c = λ xs h k inside.
    let P : Lists → Type 0 = λ l. Holds xs (parts_of c.args.n c.args.width c.args.low.now l) in
    let begin = c.index_from-begin.ensures.reached xs h k inside in
    let end = c.index_from-end.ensures.reached xs (subst P (sym c.index_from-begin.ensures.reads.same) h) k inside in (
      λ is. (
        begin.0 is.0,
        ⊎_elim (λ less. less) (λ more. absurd (omega (arith, is.1, end.1 more))) (cases_lt (slice_index xs k) c.args.to),
      ),
      λ is. (
        begin.1 is.0,
        ⊎_elim (λ less. less) (λ more. absurd (omega (arith, is.1, end.0 more))) (cases_lt k c.index_from-end.result),
      ),
    )
