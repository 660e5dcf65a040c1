-- The value is there exactly where the first low digits of the bucket that are as great as its own are its own.
use Rattle.std.proofs.Common.{ℕ, ◌/◌, ◌^◌, ◌<◌, List, sym, ◌∙◌, subst, arith}
use Rattle.std.proofs.lemmas.Bool.{eqb-true, eq-eqb}
use Rattle.elias_fano.proofs.lemmas.BucketLemmas.{IsBucket, fragments-rise}
use Rattle.elias_fano.proofs.lemmas.FragmentLemmas.{fragment-same}
use Rattle.elias_fano.proofs.lemmas.MemberLemmas.{held-low, low-held, none-held}
use Rattle.elias_fano.specs.Buckets.{CountsBelow, CountsTo, Splits}
use Rattle.elias_fano.specs.Low.{fragment}
use Rattle.elias_fano.specs.Parts.{ArePartsOf}
use Rattle.elias_fano.proofs.searching.is_in_bucket.Goals as goal
use Rattle.elias_fano.proofs.searching.is_in_bucket.Goals.{After-split_low-position}

bucket : (c : After-split_low-position) (xs : List ℕ) (n : ℕ) (upper : List ℕ)
    → ArePartsOf xs n c.args.low.now.width c.args.low.now.words upper
    → CountsBelow xs c.args.low.now.width (c.args.v / 2 ^ c.args.low.now.width) c.args.first
    → CountsTo xs c.args.low.now.width (c.args.v / 2 ^ c.args.low.now.width) c.args.end
    → IsBucket xs c.args.low.now c.args.v c.args.first c.args.end c.split_low-position.result
bucket c xs n upper h before to =
    let P : ℕ → Type 0 = λ r. Splits (fragment c.args.low.now) c.args.first c.args.end r c.split_low-position.result in
    let rise = fragments-rise xs n c.args.low.now upper h _ _ _ before to in
    record { begins = before; ends = to; splits = subst P c.low_part-sought.ensures (c.split_low-position.ensures.splits rise) }

pub returns-then-position-end-clause-answer : goal.returns-then-position-end-clause-answer
returns-then-position-end-clause-answer c = λ xs n upper h before to.
    let b = bucket (goal.at.returns-then-position-end-clause-answer c).After-split_low-position xs n upper h before to in (
      λ no. cc,
      λ held. absurd (none-held xs n _ upper h _ _ _ _ b c.if-position-end.true held),
    )

pub returns-else-width-eq0-clause-answer : goal.returns-else-width-eq0-clause-answer
returns-else-width-eq0-clause-answer c = λ xs n upper h before to.
    let b = bucket (goal.at.returns-else-width-eq0-clause-answer c).After-split_low-position xs n upper h before to in
    let read = c.split_low-position.ensures.fragments in
    let item = c.fragment.ensures.item ∙ fragment-same c.args.low.now c.split_low-position.new.low _ read.words read.width in
    let some : c.split_low-position.result < c.args.end = omega (arith, c.split_low-position.ensures.claimed.to, c.if-position-end.false) in (
      λ yes. held-low xs n _ upper h _ _ _ _ b some (sym item ∙ eqb-true _ _ yes ∙ c.low_part-sought.ensures),
      λ held. eq-eqb _ _ (item ∙ low-held xs n _ upper h _ _ _ _ b some held ∙ sym c.low_part-sought.ensures),
    )
