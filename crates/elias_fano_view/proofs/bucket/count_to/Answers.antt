-- Where there is no such zero, no item has more above its low digits; right tables claim the position of one that there is.
use Rattle.std.proofs.Common.{ℕ, false, sym, subst, ⊎_elim, arith}
use Rattle.std.proofs.lemmas.Bool.{cases_lt}
use Rattle.bit_lists.proofs.lemmas.BitsLemmas.{length-bits_of}
use Rattle.bit_lists.specs.Bits.{bits_of}
use Rattle.bit_lists.specs.Count.{count_of}
use Rattle.elias_fano.proofs.lemmas.BucketLemmas.{CountsTo-all}
use Rattle.elias_fano.specs.Buckets.{CountsTo}
use Rattle.elias_fano_view.proofs.bucket.count_to.Goals as goal

pub returns-then-code-eq-NO_ANSWER-clause-count : goal.returns-then-code-eq-NO_ANSWER-clause-count
returns-then-code-eq-NO_ANSWER-clause-count c = λ xs l upper h tables short n claimed.
    let P : ℕ → Type 0 = CountsTo xs l c.args.above in
    ⊎_elim
    (λ some. absurd (omega (arith, (claimed.some tables some).inside, length-bits_of upper.words, short, c.if-code-eq-NO_ANSWER.true)))
    (λ none. subst P (sym n) (CountsTo-all xs l _ h c.args.above none))
    (cases_lt c.args.above (count_of (bits_of upper.words) false))

pub returns-then-code-eq-WRONG_TABLES-clause-count : goal.returns-then-code-eq-WRONG_TABLES-clause-count
returns-then-code-eq-WRONG_TABLES-clause-count c = λ xs l upper h tables short n claimed.
    ⊎_elim
    (λ some. omega (arith, (claimed.some tables some).inside, length-bits_of upper.words, short, c.if-code-eq-WRONG_TABLES.true))
    (λ none. omega (arith, claimed.none tables none, c.if-code-eq-WRONG_TABLES.true))
    (cases_lt c.args.above (count_of (bits_of upper.words) false))
