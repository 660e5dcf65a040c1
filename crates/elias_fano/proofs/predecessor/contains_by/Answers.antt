-- The bucket of the value has the ends that are found, and none is there where no number has its upper digits or more.
use Rattle.std.proofs.Common.{ℕ, ◌-◌, ◌/◌, ◌^◌, ◌≤◌, sym, ap, refl, subst, arith}
use Rattle.bitm_tables.specs.Entry.{less}
use Rattle.bitm_tables.specs.Tables.{bits_in, Lists}
use Rattle.elias_fano.proofs.lemmas.EndsLemmas.{both-ends, high}
use Rattle.elias_fano.proofs.lemmas.FragmentLemmas.{bucket-shared, fragments-more}
use Rattle.elias_fano.proofs.lemmas.MemberLemmas.{below-held}
use Rattle.elias_fano.proofs.lemmas.SizeLemmas.{digits-grow}
use Rattle.elias_fano.proofs.lemmas.ClaimedLemmas.{claimed_all, claimed_member}
use Rattle.elias_fano.specs.Buckets.{BeginsAt}
use Rattle.elias_fano.specs.Ends.{HoldsHigh}
use Rattle.elias_fano.specs.Claims.{ClaimsBelow, ClaimsTo}
use Rattle.elias_fano.proofs.predecessor.contains_by.Goals as goal

pub returns-in-Absent-clause-answer : goal.returns-in-Absent-clause-answer
returns-in-Absent-clause-answer g c = λ xs h f.
    let all = c.in-Absent.ensures.begin xs _ (high xs c.args.n c.args.low.now _ h) f in (
      λ no. cc,
      λ held. absurd (below-held xs c.args.low.now.width _ c.args.v all (ap (λ w. c.args.v / 2 ^ w) c.width.ensures) held),
    )

pub returns-in-Absent-clause-claimed : goal.returns-in-Absent-clause-claimed
returns-in-Absent-clause-claimed g c = λ claims.
    let lists = g.T.TableSource.lists c.args.source.now in
    let P : ℕ → Type 0 = λ k. ClaimsBelow lists c.args.n (c.args.v / 2 ^ k) c.args.n × ClaimsTo lists c.args.n (c.args.v / 2 ^ k) c.args.n in
    let claimed = subst P c.width.ensures (c.in-Absent.ensures.claimed claims) in
    (c.args.n, claimed_all c.args.n c.args.low.now lists c.args.v claimed.0 claimed.1, λ _. refl)

-- ---- the source's lists are the same when the end is sought

pub returns-in-Some-clause-claimed : goal.returns-in-Some-clause-claimed
returns-in-Some-clause-claimed g c = λ claims.
    let lists = g.T.TableSource.lists c.args.source.now in
    let first = less c.in-Found.begin (c.args.v / 2 ^ c.width.result) in
    let B : ℕ → Type 0 = λ k. ClaimsBelow lists c.args.n (c.args.v / 2 ^ k) first in
    let L : Lists → Type 0 = λ l. ClaimsTo l c.args.n (c.args.v / 2 ^ c.width.result) c.in-Some.end in
    let E : ℕ → Type 0 = λ k. ClaimsTo lists c.args.n (c.args.v / 2 ^ k) c.in-Some.end in
    claimed_member c.args.n c.args.low.now lists c.args.v first c.in-Some.end (subst B c.width.ensures (c.in-Found.ensures.claimed claims))
    (λ _. subst E c.width.ensures (subst L c.in-Found.ensures.reads.same (c.in-Some.ensures.claimed claims)))
    c.in-Some.ensures.within c.is_in_bucket.result c.is_in_bucket.ensures.claimed

pub returns-in-Some-clause-answer : goal.returns-in-Some-clause-answer
returns-in-Some-clause-answer g c = λ xs h f.
    let here = high xs c.args.n c.args.low.now _ h in
    let at = c.in-Found.ensures.begin xs _ here f in
    let P : Lists → Type 0 =
    λ l. HoldsHigh xs c.args.n c.args.low.now.width l × g.F.FindsEnds.finds c.args.finder.now l
    × BeginsAt (bits_in l) (c.args.v / 2 ^ c.width.result) c.in-Found.begin in
    let now = subst P (sym c.in-Found.ensures.reads.same) (here, f, at) in
    let ends =
    both-ends xs c.args.n c.args.low.now _ h c.args.v c.in-Found.begin _ c.width.ensures at c.in-Some.end
    (c.in-Some.ensures.count xs _ now.0 now.1 now.2) in
    c.is_in_bucket.ensures.answer xs c.args.n _ h.are ends.0 ends.1

pub returns-in-Some-clause-fragments : goal.returns-in-Some-clause-fragments
returns-in-Some-clause-fragments g c =
    let size = c.in-Some.end - less c.in-Found.begin (c.args.v / 2 ^ c.width.result) in
    let order : size ≤ c.args.n = omega (arith, c.in-Some.ensures.within) in
    let digits = digits-grow _ _ order in
    fragments-more _ _ _ _ c.is_in_bucket.ensures.fragments (omega (arith, digits))

pub returns-in-Some-clause-shared : goal.returns-in-Some-clause-shared
returns-in-Some-clause-shared g c = λ xs h f.
    let here = high xs c.args.n c.args.low.now _ h in
    let at = c.in-Found.ensures.begin xs _ here f in
    let P : Lists → Type 0 =
    λ l. HoldsHigh xs c.args.n c.args.low.now.width l × g.F.FindsEnds.finds c.args.finder.now l
    × BeginsAt (bits_in l) (c.args.v / 2 ^ c.width.result) c.in-Found.begin in
    let now = subst P (sym c.in-Found.ensures.reads.same) (here, f, at) in
    let ends =
    both-ends xs c.args.n c.args.low.now _ h c.args.v c.in-Found.begin _ c.width.ensures at c.in-Some.end
    (c.in-Some.ensures.count xs _ now.0 now.1 now.2) in
    let digits = digits-grow _ _ (bucket-shared xs c.args.low.now.width c.args.v _ _ ends.0 ends.1) in
    fragments-more _ _ _ _ c.is_in_bucket.ensures.fragments (omega (arith, digits))
