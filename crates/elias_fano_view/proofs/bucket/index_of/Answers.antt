-- What is reported are the ends of the bucket.
use Rattle.std.proofs.Common.{◌≡◌, ℕ, ◌-◌, ◌/◌, ◌^◌, ◌<◌, List, false, sym, ap, subst, arith}
use Rattle.bitm_select.specs.Answers.{IsSelectCode}
use Rattle.bitm_tables.specs.Tables.{Lists}
use Rattle.elias_fano.proofs.lemmas.BucketLemmas.{bucket-order}
use Rattle.elias_fano.proofs.lemmas.ItemLemmas.{upper-short}
use Rattle.elias_fano.proofs.lemmas.ClaimedLemmas.{claimed_less}
use Rattle.elias_fano.specs.Buckets.{CountsTo, CountsBelow, HasEnds}
use Rattle.elias_fano.specs.SequenceParts.{parts_with, Holds}
use Rattle.elias_fano_view.specs.Lists.{AreEndCodes}
use Rattle.elias_fano.specs.Claims.{ClaimsBelow, ClaimsTo}
use Rattle.elias_fano_view.proofs.bucket.index_of.Goals as goal
use Rattle.elias_fano_view.proofs.bucket.index_of.Goals.{In-Some, After-index_in_bucket, After-index_in_bucket-2}

begins : (c : In-Some) (xs : List ℕ) (upper : Lists) → Holds xs (parts_with c.args.n c.args.low.now upper)
    → AreEndCodes (parts_with c.args.n c.args.low.now upper) c.args.v c.args.begin c.args.end
    → CountsBelow xs c.args.low.now.width (c.args.v / 2 ^ c.args.low.now.width) c.in-Some.first
begins c xs upper h e =
    let w = c.args.low.now.width in
    let short = upper-short _ _ _ _ _ h.are in
    let P : ℕ → Type 0 = λ k. CountsBelow xs w (c.args.v / 2 ^ k) c.in-Some.first in
    let T : ℕ → Type 0 = λ k. 0 < c.args.v / 2 ^ k → IsSelectCode false upper (c.args.v / 2 ^ k - 1) c.args.begin in
    let claimed = subst T (sym c.width-width.ensures) (λ some. e.begins) in
    subst P c.width-width.ensures (c.in-Some.ensures.count xs w upper h.are.upper_is h.tables short h.are.count claimed)

ends : (c : After-index_in_bucket-2) (xs : List ℕ) (upper : Lists) → Holds xs (parts_with c.args.n c.args.low.now upper)
    → AreEndCodes (parts_with c.args.n c.args.low.now upper) c.args.v c.args.begin c.args.end
    → HasEnds xs c.args.low.now.width c.args.v c.in-Some.first c.in-Some-count_to.last
ends c xs upper h e =
    let w = c.args.low.now.width in
    let some : 0 < w = omega (arith, c.width-width.ensures, c.if-width-eq0.false) in
    let short = upper-short _ _ _ _ _ h.are in
    let first = begins (goal.at.returns-clause-answer c).In-Some xs upper h e in
    let P : ℕ → Type 0 = λ k. CountsTo xs w (c.args.v / 2 ^ k) c.in-Some-count_to.last in
    let T : ℕ → Type 0 = λ r. IsSelectCode false upper r c.args.end in
    let rank : c.args.v / 2 ^ w - 0 ≡ c.args.v / 2 ^ c.width-width.result = omega (arith, ap (λ k. c.args.v / 2 ^ k) c.width-width.ensures) in
    let claimed = subst T rank (e.ends some) in
    let last =
    subst P c.width-width.ensures (c.in-Some-count_to.ensures.count xs w upper h.are.upper_is h.tables short h.are.count claimed) in
    record { begins = first; ends = λ narrow. last; order = bucket-order xs w _ _ _ first last }

whole : (c : After-index_in_bucket) (xs : List ℕ) (upper : Lists) → Holds xs (parts_with c.args.n c.args.low.now upper)
    → AreEndCodes (parts_with c.args.n c.args.low.now upper) c.args.v c.args.begin c.args.end
    → HasEnds xs c.args.low.now.width c.args.v c.in-Some.first c.args.n
whole c xs upper h e =
    let first = begins (goal.at.returns-then-width-eq0-clause-answer c).In-Some xs upper h e in
    record {
      begins = first;
      ends = λ some. absurd (omega (arith, c.width-width.ensures, c.if-width-eq0.true));
      order = omega (arith, first.bound, h.are.count);
    }

-- ---- what is reported of any parts

pub returns-clause-claimed : goal.returns-clause-claimed
returns-clause-claimed c = λ upper e.
    let w = c.args.low.now.width in
    let some : 0 < w = omega (arith, c.width-width.ensures, c.if-width-eq0.false) in
    let B : ℕ → Type 0 = λ k. ClaimsBelow upper c.args.n (c.args.v / 2 ^ k) c.in-Some.first in
    let S : ℕ → Type 0 = λ k. 0 < c.args.v / 2 ^ k → IsSelectCode false upper (c.args.v / 2 ^ k - 1) c.args.begin in
    let begins = subst B c.width-width.ensures (c.in-Some.ensures.claimed upper (subst S (sym c.width-width.ensures) (λ _. e.begins))) in
    let E : ℕ → Type 0 = λ k. ClaimsTo upper c.args.n (c.args.v / 2 ^ k) c.in-Some-count_to.last in
    let T : ℕ → Type 0 = λ r. IsSelectCode false upper r c.args.end in
    let rank : c.args.v / 2 ^ w - 0 ≡ c.args.v / 2 ^ c.width-width.result = omega (arith, ap (λ k. c.args.v / 2 ^ k) c.width-width.ensures) in
    let ends = subst E c.width-width.ensures (c.in-Some-count_to.ensures.claimed upper (subst T rank (e.ends some))) in
    claimed_less c.args.n c.args.low.now upper c.args.v c.in-Some.first c.in-Some-count_to.last begins (λ _. ends)
    c.in-Some-count_to.ensures.within c.index_in_bucket-2.result c.index_in_bucket-2.ensures.claimed

-- ---- right tables claim both

pub returns-in_default-clause-answer : goal.returns-in_default-clause-answer
returns-in_default-clause-answer c = λ xs upper h e.
    let w = c.args.low.now.width in
    let short = upper-short _ _ _ _ _ h.are in
    let T : ℕ → Type 0 = λ k. 0 < c.args.v / 2 ^ k → IsSelectCode false upper (c.args.v / 2 ^ k - 1) c.args.begin in
    let claimed = subst T (sym c.width-width.ensures) (λ some. e.begins) in
    c.in_default.ensures.count xs w upper h.are.upper_is h.tables short h.are.count claimed

pub returns-then-width-eq0-clause-answer : goal.returns-then-width-eq0-clause-answer
returns-then-width-eq0-clause-answer c = λ xs upper h e.
    c.index_in_bucket.ensures.answer xs _ h.are (whole (goal.at.returns-then-width-eq0-clause-answer c).After-index_in_bucket xs upper h e)

pub returns-then-width-eq0-clause-shared : goal.returns-then-width-eq0-clause-shared
returns-then-width-eq0-clause-shared c = λ xs upper h e.
    c.index_in_bucket.ensures.shared xs _ h.are (whole (goal.at.returns-then-width-eq0-clause-shared c).After-index_in_bucket xs upper h e)

pub returns-in_default-count_to-clause-answer : goal.returns-in_default-count_to-clause-answer
returns-in_default-count_to-clause-answer c = λ xs upper h e.
    let w = c.args.low.now.width in
    let some : 0 < w = omega (arith, c.width-width.ensures, c.if-width-eq0.false) in
    let short = upper-short _ _ _ _ _ h.are in
    let T : ℕ → Type 0 = λ r. IsSelectCode false upper r c.args.end in
    let rank : c.args.v / 2 ^ w - 0 ≡ c.args.v / 2 ^ c.width-width.result = omega (arith, ap (λ k. c.args.v / 2 ^ k) c.width-width.ensures) in
    let claimed = subst T rank (e.ends some) in
    c.in_default-count_to.ensures.count xs w upper h.are.upper_is h.tables short h.are.count claimed

pub returns-clause-answer : goal.returns-clause-answer
returns-clause-answer c = λ xs upper h e.
    c.index_in_bucket-2.ensures.answer xs _ h.are (ends (goal.at.returns-clause-answer c).After-index_in_bucket-2 xs upper h e)

pub returns-clause-shared : goal.returns-clause-shared
returns-clause-shared c = λ xs upper h e.
    c.index_in_bucket-2.ensures.shared xs _ h.are (ends (goal.at.returns-clause-shared c).After-index_in_bucket-2 xs upper h e)
