-- The bucket of the value has the ends that are found.
use Rattle.std.proofs.Common.{ℕ, ◌/◌, ◌^◌, sym, ap, subst, arith}
use Rattle.bitm_tables.specs.Entry.{less}
use Rattle.bitm_tables.specs.Reads.{ReadsAtMost}
use Rattle.bitm_tables.specs.Tables.{bits_in, Lists}
use Rattle.elias_fano.proofs.lemmas.EndsLemmas.{counted-ends, high, whole-ends}
use Rattle.elias_fano.proofs.lemmas.SelectionReadLemmas.{few-ends, few-one}
use Rattle.elias_fano.proofs.lemmas.ClaimedLemmas.{claimed_less}
use Rattle.elias_fano.specs.Buckets.{BeginsAt}
use Rattle.elias_fano.specs.Ends.{HoldsHigh}
use Rattle.elias_fano.specs.Claims.{ClaimsBelow, ClaimsTo}
use Rattle.elias_fano.proofs.searching.first_at_least_by.Goals as goal

-- ---- numbers have no low bits

pub returns-then-width-eq0-clause-claimed : goal.returns-then-width-eq0-clause-claimed
returns-then-width-eq0-clause-claimed g c = λ claims.
    let lists = g.T.TableSource.lists c.args.source.now in
    let first = less c.in-Found.begin (c.args.v / 2 ^ c.width-width.result) in
    let B : ℕ → Type 0 = λ k. ClaimsBelow lists c.args.n (c.args.v / 2 ^ k) first in
    claimed_less c.args.n c.args.low.now lists c.args.v first c.args.n (subst B c.width-width.ensures (c.in-Found.ensures.claimed claims))
    (λ some. absurd (omega (arith, some, c.width-width.ensures, c.if-width-eq0.true)))
    (omega arith) c.index_in_bucket.result c.index_in_bucket.ensures.claimed

pub returns-then-width-eq0-clause-answer : goal.returns-then-width-eq0-clause-answer
returns-then-width-eq0-clause-answer g c = λ xs h f.
    let at = c.in-Found.ensures.begin xs _ (high xs c.args.n c.args.low.now _ h) f in
    c.index_in_bucket.ensures.answer xs _ h.are
    (whole-ends xs c.args.n c.args.low.now _ h c.args.v c.in-Found.begin _ c.width-width.ensures at c.if-width-eq0.true)

pub returns-then-width-eq0-clause-few : goal.returns-then-width-eq0-clause-few
returns-then-width-eq0-clause-few g c = λ spares few.
    few-one _ _ c.args.n _ _ _ few (λ none. ap g.T.TableSource.reads (c.in-Found.ensures.none spares none).1)
    c.in-Found.ensures.reads.at_most

pub returns-then-width-eq0-clause-shared : goal.returns-then-width-eq0-clause-shared
returns-then-width-eq0-clause-shared g c = λ xs h f.
    let at = c.in-Found.ensures.begin xs _ (high xs c.args.n c.args.low.now _ h) f in
    c.index_in_bucket.ensures.shared xs _ h.are
    (whole-ends xs c.args.n c.args.low.now _ h c.args.v c.in-Found.begin _ c.width-width.ensures at c.if-width-eq0.true)

-- ---- the source's lists are the same when the end is sought

pub returns-in-Some-clause-claimed : goal.returns-in-Some-clause-claimed
returns-in-Some-clause-claimed g c = λ claims.
    let lists = g.T.TableSource.lists c.args.source.now in
    let first = less c.in-Found.begin (c.args.v / 2 ^ c.width-width.result) in
    let B : ℕ → Type 0 = λ k. ClaimsBelow lists c.args.n (c.args.v / 2 ^ k) first in
    let L : Lists → Type 0 = λ l. ClaimsTo l c.args.n (c.args.v / 2 ^ c.width-width.result) c.in-Some.end in
    let E : ℕ → Type 0 = λ k. ClaimsTo lists c.args.n (c.args.v / 2 ^ k) c.in-Some.end in
    claimed_less c.args.n c.args.low.now lists c.args.v first c.in-Some.end (subst B c.width-width.ensures (c.in-Found.ensures.claimed claims))
    (λ _. subst E c.width-width.ensures (subst L c.in-Found.ensures.reads.same (c.in-Some.ensures.claimed claims)))
    c.in-Some.ensures.within c.index_in_bucket-in-Some.result c.index_in_bucket-in-Some.ensures.claimed

pub returns-in-Some-clause-answer : goal.returns-in-Some-clause-answer
returns-in-Some-clause-answer g c = λ xs h f.
    let here = high xs c.args.n c.args.low.now _ h in
    let at = c.in-Found.ensures.begin xs _ here f in
    let P : Lists → Type 0 =
    λ l. HoldsHigh xs c.args.n c.args.low.now.width l × g.F.FindsEnds.finds c.args.finder.now l
    × BeginsAt (bits_in l) (c.args.v / 2 ^ c.width-width.result) c.in-Found.begin in
    let now = subst P (sym c.in-Found.ensures.reads.same) (here, f, at) in
    c.index_in_bucket-in-Some.ensures.answer xs _ h.are
    (counted-ends xs c.args.n c.args.low.now _ h c.args.v c.in-Found.begin _ c.width-width.ensures at c.in-Some.end
    (c.in-Some.ensures.count xs _ now.0 now.1 now.2))

pub returns-in-Some-clause-few : goal.returns-in-Some-clause-few
returns-in-Some-clause-few g c = λ spares few.
    let M : Lists → Type 0 = λ l. ReadsAtMost (g.T.TableSource.reads c.begin.new.source) (g.T.TableSource.reads c.end.new.source)
    (g.F.FindsEnds.most l).upper (g.F.FindsEnds.most l).lower (g.F.FindsEnds.most l).words in
    few-ends _ (g.T.TableSource.reads c.begin.new.source) _ c.args.n (c.args.v / 2 ^ c.width-width.result) _ _ _ few
    (λ none. let both = (c.in-Found.ensures.none spares none).0 in cc)
    (λ zero. ap g.T.TableSource.reads (c.in-Found.ensures.first zero))
    (λ one some. ap g.T.TableSource.reads (c.in-Some.ensures.alone spares one some))
    c.in-Found.ensures.reads.at_most (subst M c.in-Found.ensures.reads.same (c.in-Some.ensures.spared spares))

pub returns-in-Some-clause-shared : goal.returns-in-Some-clause-shared
returns-in-Some-clause-shared g c = λ xs h f.
    let here = high xs c.args.n c.args.low.now _ h in
    let at = c.in-Found.ensures.begin xs _ here f in
    let P : Lists → Type 0 =
    λ l. HoldsHigh xs c.args.n c.args.low.now.width l × g.F.FindsEnds.finds c.args.finder.now l
    × BeginsAt (bits_in l) (c.args.v / 2 ^ c.width-width.result) c.in-Found.begin in
    let now = subst P (sym c.in-Found.ensures.reads.same) (here, f, at) in
    c.index_in_bucket-in-Some.ensures.shared xs _ h.are
    (counted-ends xs c.args.n c.args.low.now _ h c.args.v c.in-Found.begin _ c.width-width.ensures at c.in-Some.end
    (c.in-Some.ensures.count xs _ now.0 now.1 now.2))
