-- Each position that comes is that of a 1 bit after another, whose number is counted in its word.
use Rattle.std.proofs.Common.{◌≡◌, ℕ, ◌+◌, ◌-◌, ◌*◌, ◌<◌, ◌≤◌, true, List, length, get_or, bit_and, count_ones, sym, ap, subst, ◌∙◌, ◌↔◌, ◌&&◌, arith}
use Rattle.std.proofs.lemmas.Iterator.{YieldsList}
use Rattle.std.proofs.lemmas.Iterator.Consumers.{YieldsList-end, YieldsList-from_first, YieldsList-turn}
use Rattle.std.proofs.lemmas.List.{length_push}
use Rattle.std.specs.Iterator.{YieldsFirstBy}
use Rattle.bit_lists.specs.Bits.{bits_of}
use Rattle.bit_lists.specs.Count.{ones_before}
use Rattle.elias_fano_view.proofs.FollowLemmas.{follower-late, follower-met, follower-rank, follower-within, fragment-among, IsFollower}
use Rattle.elias_fano_view.proofs.RiseLemmas.{all-met, met-all, met-none, met-step, AreMet}
use Rattle.elias_fano_view.specs.Checks.{low_item}
use Rattle.elias_fano_view.proofs.rising.rise_in_word.Goals as goal
use Rattle.elias_fano_view.proofs.rising.rise_in_word.Goals.{In-Some, After-n_lowest_bits}

-- the loop takes all positions
given : (it all : List ℕ) → it ≡ all → YieldsList (YieldsFirstBy (λ (p : ℕ). p) (λ (coming : List ℕ). coming)) (λ (p : ℕ). p) it all
given it all is = YieldsList-from_first (λ p. p) (λ coming. coming) all is

met : (c : In-Some) → IsFollower c.args.words.now c.args.k c.followers-after.result (length c.loop-position.yielded) c.in-Some.position
met c =
    follower-met c.args.words.now c.args.k c.followers-after.result (length c.loop-position.yielded) c.in-Some.position c.followers-after.ensures
    (YieldsList-turn (given _ _ (c.into_iter-position-iterator.ensures.into_iter_gives ∙ c.new-position-items.ensures)) c.loop-position.yielded _ c.loop-position.yielded_by _ _
    c.in-Some.position c.in-Some.is c.next.ensures.steps)

-- its number
number-is : (c : After-n_lowest_bits) → c.in-Some.position < 64
    → c.args.ones + count_ones (bit_and (get_or c.args.words.now c.args.k 0) c.n_lowest_bits.result)
    ≡ ones_before (bits_of c.args.words.now) (64 * c.args.k + c.in-Some.position)
number-is c low =
    let words = c.args.words.now in
    omega (
      arith,
      c.requires.ones,
      ap (λ m. count_ones (bit_and (get_or words c.args.k 0) m)) c.n_lowest_bits.ensures,
      follower-rank words c.args.k c.requires.inside c.in-Some.position low,
    )

pub overflow_cast-position : goal.overflow_cast-position
overflow_cast-position c = record { fits = omega (arith, (met (goal.at.overflow_cast-position c).In-Some).low) }

pub n_lowest_bits-requires : goal.n_lowest_bits-requires
n_lowest_bits-requires c = omega (arith, (met (goal.at.n_lowest_bits-requires c).In-Some).low)

pub overflow_add-at : goal.overflow_add-at
overflow_add-at c =
    let m = met (goal.at.overflow_add-at c).In-Some in
    let is = number-is (goal.at.overflow_add-at c).After-n_lowest_bits m.low in
    record { fits = omega (arith, is, follower-within c.args.words.now c.args.k c.requires.inside c.in-Some.position m.low m.follows, c.requires.some.short) }

pub rises_at-rise-requires-clause-fragment : goal.rises_at-rise-requires-clause-fragment
rises_at-rise-requires-clause-fragment c =
    let m = met (goal.at.rises_at-rise-requires-clause-fragment c).In-Some in
    let is = number-is (goal.at.rises_at-rise-requires-clause-fragment c).After-n_lowest_bits m.low in
    fragment-among c.args.low.now c.args.width _ _ c.requires.some
    (omega (arith, is, follower-within c.args.words.now c.args.k c.requires.inside c.in-Some.position m.low m.follows))

pub rises_at-rise-requires-clause-before : goal.rises_at-rise-requires-clause-before
rises_at-rise-requires-clause-before c =
    let m = met (goal.at.rises_at-rise-requires-clause-before c).In-Some in
    let is = number-is (goal.at.rises_at-rise-requires-clause-before c).After-n_lowest_bits m.low in
    omega (arith, is, follower-late c.args.words.now c.args.k c.requires.inside c.in-Some.position m.low m.follows)

pub loop-position-init : goal.loop-position-init
loop-position-init c = (λ _. met-none c.args.gap c.args.width c.args.low.now c.args.words.now c.args.k c.followers-after.result, λ _. cc)

pub loop-position-preserved : goal.loop-position-preserved
loop-position-preserved c =
    let m = met (goal.at.loop-position-preserved c).In-Some in
    let is = number-is (goal.at.loop-position-preserved c).After-n_lowest_bits m.low in
    let gap = c.args.gap in
    let width = c.args.width in
    let low = c.args.low.now in
    let words = c.args.words.now in
    let after = c.followers-after.result in
    let here = c.rises_at-rise.result in
    let One : ℕ → Type 0 = λ r. (here ≡ true) ↔ (low_item width low (r - 1) + gap ≤ low_item width low r) in
    let Met : ℕ → Type 0 = λ n. ((c.loop-position.rise && here) ≡ true) ↔ AreMet gap width low words c.args.k after n in
    subst Met (sym (length_push c.loop-position.yielded c.in-Some.position))
    (met-step gap width low words c.args.k after (length c.loop-position.yielded) c.in-Some.position c.loop-position.rise here m.position c.loop-position.invariant
    (subst One is c.rises_at-rise.ensures))

pub returns : goal.returns
returns c =
    let gap = c.args.gap in
    let width = c.args.width in
    let low = c.args.low.now in
    let words = c.args.words.now in
    let after = c.followers-after.result in
    let end = YieldsList-end (given _ _ (c.into_iter-position-iterator.ensures.into_iter_gives ∙ c.new-position-items.ensures)) c.loop-position.yielded _
    c.loop-position.yielded_by _ _ c.in-None.is c.next.ensures.steps in
    let Met : ℕ → Type 0 = λ n. (c.loop-position.rise ≡ true) ↔ AreMet gap width low words c.args.k after n in
    let whole = subst Met end.1 c.loop-position.invariant in (
      λ rise. met-all gap width low words c.args.k after c.followers-after.ensures (whole.0 rise),
      λ all. whole.1 (all-met gap width low words c.args.k after c.followers-after.ensures all),
    )
