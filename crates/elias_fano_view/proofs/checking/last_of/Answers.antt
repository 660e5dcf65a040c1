-- Numbers whose neighbours rise never decrease, and those of a sequence do; the last of them is the largest.
use Rattle.std.proofs.Common.{◌≡◌, ◌-◌, ◌*◌, ◌<◌, true, length, sym, ap, subst, ◌∙◌, arith}
use Rattle.std.proofs.lemmas.Bool.{both_ways}
use Rattle.bit_lists.specs.Bits.{bits_of}
use Rattle.bit_lists.specs.Count.{ones_of, Picks}
use Rattle.elias_fano.specs.Low.{joined_item, Lows}
use Rattle.elias_fano.specs.Parts.{HasFragment}
use Rattle.elias_fano_view.proofs.CheckLemmas.{held_is, held_of_pick, ones-all}
use Rattle.elias_fano_view.proofs.FollowLemmas.{fragment-among}
use Rattle.elias_fano_view.proofs.RiseLemmas.{are-numbers, last-late, last-picked, one-to, sequence-rise, claimed, words-some}
use Rattle.elias_fano_view.specs.Checks.{held_item, NeighboursRise}
use Rattle.elias_fano_view.proofs.checking.last_of.Goals as goal
use Rattle.elias_fano_view.proofs.checking.last_of.Goals.{Else-n-eq0, After-rfind_bit_one_unchecked-position}

pub returns-then-not-rise_among : goal.returns-then-not-rise_among
returns-then-not-rise_among c = λ xs h.
    let width = c.args.width in
    let low = c.args.low.now in
    let words = c.args.words.now in
    let n = c.args.n in
    both_ways c.rise_among.result c.if-not-rise_among.true
    (c.rise_among.ensures.1 (ones-all xs n width low words h, sequence-rise xs n width low words h))

pub returns-then-n-eq0 : goal.returns-then-n-eq0
returns-then-n-eq0 c =
    let h = c.rise_among.ensures.0 c.if-not-rise_among.false in (
      are-numbers 0 c.args.n c.args.width c.args.low.now c.args.words.now (omega arith) c.requires.some h.0 h.1 0
          (λ some. absurd (omega (arith, some, c.if-n-eq0.true))) (λ _. cc) (omega arith),
      h.0,
    )

-- what was found among all
found : (c : Else-n-eq0) → (ones_of (bits_of c.args.words.now) ≡ c.args.n)
    × NeighboursRise 0 c.args.width c.args.low.now c.args.words.now 0 (64 * length c.args.words.now)
found c = c.rise_among.ensures.0 c.if-not-rise_among.false

some : (c : Else-n-eq0) → 0 < c.args.n
some c = omega (arith, c.if-n-eq0.false)

pub overflow_sub-words : goal.overflow_sub-words
overflow_sub-words c =
    let a = (goal.at.overflow_sub-words c).Else-n-eq0 in
    let more = words-some 0 c.args.n c.args.width c.args.low.now c.args.words.now (omega arith) c.requires.some (found a).0 (found a).1 (some a) in
    omega (arith, more)

pub rfind_bit_one_unchecked-position-requires-clause-inside : goal.rfind_bit_one_unchecked-position-requires-clause-inside
rfind_bit_one_unchecked-position-requires-clause-inside c =
    let a = (goal.at.rfind_bit_one_unchecked-position-requires-clause-inside c).Else-n-eq0 in
    let more = words-some 0 c.args.n c.args.width c.args.low.now c.args.words.now (omega arith) c.requires.some (found a).0 (found a).1 (some a) in
    omega (arith, more)

pub rfind_bit_one_unchecked-position-requires-clause-exists : goal.rfind_bit_one_unchecked-position-requires-clause-exists
rfind_bit_one_unchecked-position-requires-clause-exists c =
    let a = (goal.at.rfind_bit_one_unchecked-position-requires-clause-exists c).Else-n-eq0 in
    one-to 0 c.args.n c.args.width c.args.low.now c.args.words.now (omega arith) c.requires.some (found a).0 (found a).1 (some a)

pick : (c : After-rfind_bit_one_unchecked-position) → Picks (bits_of c.args.words.now) true (c.args.n - 1) c.rfind_bit_one_unchecked-position.result
pick c =
    let f = c.rise_among.ensures.0 c.if-not-rise_among.false in
    let one : 0 < c.args.n = omega (arith, c.if-n-eq0.false) in
    last-picked 0 c.args.n c.args.width c.args.low.now c.args.words.now (omega arith) c.requires.some f.0 f.1 one _ c.rfind_bit_one_unchecked-position.ensures

pub number_of-requires-clause-fragment : goal.number_of-requires-clause-fragment
number_of-requires-clause-fragment c =
    let a = (goal.at.number_of-requires-clause-fragment c).Else-n-eq0 in
    let P : Lows → Type 0 = λ d. HasFragment d.words (c.args.n - 1) d.width in
    subst P (sym c.new.ensures) (fragment-among c.args.low.now c.args.width c.args.n (c.args.n - 1) c.requires.some (omega (arith, some a)))

pub number_of-requires-clause-order : goal.number_of-requires-clause-order
number_of-requires-clause-order c =
    let a = (goal.at.number_of-requires-clause-order c).After-rfind_bit_one_unchecked-position in
    let f = c.rise_among.ensures.0 c.if-not-rise_among.false in
    last-late 0 c.args.n c.args.width c.args.low.now c.args.words.now (omega arith) c.requires.some f.0 f.1 _ (pick a)

pub returns : goal.returns
returns c =
    let f = c.rise_among.ensures.0 c.if-not-rise_among.false in
    let width = c.args.width in
    let low = c.args.low.now in
    let words = c.args.words.now in
    let n = c.args.n in
    let one : 0 < n = omega (arith, c.if-n-eq0.false) in
    let position = c.rfind_bit_one_unchecked-position.result in
    let is : joined_item (position - (n - 1)) c.new.result (n - 1) ≡ held_item width low words (n - 1) =
    ap (λ (d : Lows). joined_item (position - (n - 1)) d (n - 1)) c.new.ensures
    ∙ sym (held_of_pick width low words (n - 1) position (pick (goal.at.returns c).After-rfind_bit_one_unchecked-position)) in
    claimed c.number_of.result _ _ _ _ c.number_of.ensures.number
    (λ large xs h.
    large (omega (arith, is, held_is xs n width low words h (n - 1) (omega (arith, one)), h.sequence.small (n - 1) 0 (omega (arith, one, h.count)))))
    (λ fits.
    (are-numbers 0 n width low words (omega arith) c.requires.some f.0 f.1 _ (λ _. is) (λ none. absurd (omega (arith, none, one))) fits, f.0))
