-- The position is among the items with the upper digits of the value, or the one after them; without low
-- digits it is the first.
use Rattle.std.proofs.Common.{◌≡◌, ℕ, ◌-◌, ◌%◌, ◌^◌, ◌<◌, ◌≤◌, List, sym, subst, ⊎_elim, arith}
use Rattle.std.proofs.lemmas.Bool.{cases_eq}
use Rattle.elias_fano.proofs.lemmas.BucketLemmas.{IsBucket, bucket-reaches, bucket-none, fragments-rise, whole-reaches, whole-none}
use Rattle.elias_fano.proofs.lemmas.FragmentLemmas.{bucket-shared, fragments-more, fragments-none}
use Rattle.elias_fano.proofs.lemmas.SizeLemmas.{digits-grow}
use Rattle.bit_lists.specs.Bits.{digit_count}
use Rattle.elias_fano.specs.Buckets.{HasEnds, Splits}
use Rattle.elias_fano.specs.Low.{fragment, sharing, ReadsFragments}
use Rattle.elias_fano.specs.Parts.{ArePartsOf}
use Rattle.elias_fano.specs.Sequence.{Reaches}
use Rattle.elias_fano.specs.Claims.{PartsAt}
use Rattle.elias_fano.proofs.searching.index_in_bucket.Goals as goal
use Rattle.elias_fano.proofs.searching.index_in_bucket.Goals.{After-split_low-position}

-- the ends of the bucket, and where its low digits part
bucket : (c : After-split_low-position) (xs upper : List ℕ)
    → ArePartsOf xs c.args.n c.args.low.now.width c.args.low.now.words upper
    → HasEnds xs c.args.low.now.width c.args.v c.args.first c.args.end → 0 < c.args.low.now.width
    → IsBucket xs c.args.low.now c.args.v c.args.first c.args.end c.split_low-position.result
bucket c xs upper h e some =
    let low = c.args.low.now in
    let ends = e.ends some in
    let rise = fragments-rise xs c.args.n low upper h _ _ _ e.begins ends in
    let P : ℕ → Type 0 = λ r. Splits (fragment low) c.args.first c.args.end r c.split_low-position.result in
    record { begins = e.begins; ends = ends; splits = subst P c.low_part-rest.ensures (c.split_low-position.ensures.splits rise) }

pub returns-then-end-first-clause-answer : goal.returns-then-end-first-clause-answer
returns-then-end-first-clause-answer c = λ xs upper h e. omega (arith, e.order, c.if-end-first.true)

parting : (c : After-split_low-position) → PartsAt (fragment c.args.low.now) c.args.low.now.width c.args.first c.args.end
    (c.args.v % 2 ^ c.args.low.now.width) c.split_low-position.result
parting c =
    let P : ℕ → Type 0 = λ r. PartsAt (fragment c.args.low.now) c.args.low.now.width c.args.first c.args.end r c.split_low-position.result in
    subst P c.low_part-rest.ensures c.split_low-position.ensures.claimed

pub returns-then-position-n-clause-claimed : goal.returns-then-position-n-clause-claimed
returns-then-position-n-clause-claimed c = parting (goal.at.returns-then-position-n-clause-claimed c).After-split_low-position

pub returns-else-position-n-clause-claimed : goal.returns-else-position-n-clause-claimed
returns-else-position-n-clause-claimed c =
    let d = (goal.at.returns-else-position-n-clause-claimed c).After-split_low-position in
    let last : c.split_low-position.result ≡ c.args.n = omega (arith, c.if-position-n.false, c.split_low-position.ensures.claimed.to, c.requires.end) in
    let P : ℕ → Type 0 = λ p. PartsAt (fragment c.args.low.now) c.args.low.now.width c.args.first c.args.end
    (c.args.v % 2 ^ c.args.low.now.width) p in
    subst P last (parting d)

-- ---- the position

pub returns-then-position-n-clause-answer : goal.returns-then-position-n-clause-answer
returns-then-position-n-clause-answer c = λ xs upper h e.
    let d = (goal.at.returns-then-position-n-clause-answer c).After-split_low-position in
    let w = c.args.low.now.width in
    ⊎_elim
    (λ none.
    let same = c.split_low-position.ensures.claimed.whole none in
    let P : ℕ → Type 0 = λ k. Reaches xs c.args.v k in
    subst P (sym same) (whole-reaches xs c.args.v w _ none e.begins (omega (arith, same, h.count, c.if-position-n.true))))
    (λ apart. bucket-reaches xs _ _ _ h c.args.v _ _ _ (bucket d xs upper h e (omega arith)) c.if-position-n.true)
    (cases_eq w 0)

pub returns-else-position-n-clause-answer : goal.returns-else-position-n-clause-answer
returns-else-position-n-clause-answer c = λ xs upper h e.
    let d = (goal.at.returns-else-position-n-clause-answer c).After-split_low-position in
    let w = c.args.low.now.width in
    ⊎_elim
    (λ none.
    let same = c.split_low-position.ensures.claimed.whole none in
    whole-none xs c.args.v w _ none e.begins (omega (arith, same, h.count, c.if-position-n.false)))
    (λ apart. bucket-none xs _ _ _ h c.args.v _ _ _ (bucket d xs upper h e (omega arith)) c.if-position-n.false)
    (cases_eq w 0)

-- ---- what is read

few : (c : After-split_low-position) → ReadsFragments c.args.low.now c.split_low-position.new.low (digit_count c.args.n)
few c =
    let order : c.args.end - c.args.first ≤ c.args.n = omega (arith, c.requires.end) in
    fragments-more _ _ _ _ c.split_low-position.ensures.fragments (digits-grow _ _ order)

shared : (c : After-split_low-position) (xs : List ℕ) → HasEnds xs c.args.low.now.width c.args.v c.args.first c.args.end
    → ReadsFragments c.args.low.now c.split_low-position.new.low (digit_count (sharing xs c.args.low.now.width c.args.v))
shared c xs e =
    let w = c.args.low.now.width in
    ⊎_elim (λ none. fragments-none _ _ _ (c.split_low-position.ensures.none none))
    (λ apart.
    let order = bucket-shared xs w c.args.v _ _ e.begins (e.ends (omega arith)) in
    fragments-more _ _ _ _ c.split_low-position.ensures.fragments (digits-grow _ _ order))
    (cases_eq w 0)

pub returns-then-position-n-clause-fragments : goal.returns-then-position-n-clause-fragments
returns-then-position-n-clause-fragments c = few (goal.at.returns-then-position-n-clause-fragments c).After-split_low-position

pub returns-then-position-n-clause-shared : goal.returns-then-position-n-clause-shared
returns-then-position-n-clause-shared c = λ xs upper h e. shared (goal.at.returns-then-position-n-clause-shared c).After-split_low-position xs e

pub returns-else-position-n-clause-fragments : goal.returns-else-position-n-clause-fragments
returns-else-position-n-clause-fragments c = few (goal.at.returns-else-position-n-clause-fragments c).After-split_low-position

pub returns-else-position-n-clause-shared : goal.returns-else-position-n-clause-shared
returns-else-position-n-clause-shared c = λ xs upper h e. shared (goal.at.returns-else-position-n-clause-shared c).After-split_low-position xs e
