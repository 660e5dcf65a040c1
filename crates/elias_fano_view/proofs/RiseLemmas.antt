-- Neighbours that rise, word by word; numbers whose neighbours rise never decrease, and those of a sequence do.
use Rattle.std.proofs.Common.{◌≡◌, ℕ, zero, suc, ◌+◌, ◌-◌, ◌*◌, ◌^◌, ◌<◌, ◌≤◌, ◌↔◌, ◌&&◌, Bool, true, false, List, [], ◌∷◌, length, get_or, eqb, count_ones, mod-eq_of_lt, Option, Some, None, refl, sym, ap, subst, ◌∙◌, ⊎_elim, arith}
use Rattle.std.proofs.lemmas.Bool.{cases_eq, cases_lt, eq-eqb, eqb-true, false≢true}
use Rattle.std.proofs.Math.Nat.{mul-le-mul_right}
use Rattle.std.specs.Cmp.Derive.{both_true}
use Rattle.std.specs.List.Sorted.{IsStrictlyIncreasing}
use Rattle.std.specs.Prelude.{MatchOption, SomeIff}
use Rattle.bit_lists.proofs.BitLaws.{bits_are_counted, ones_and_zeros, positions_are_counted, positions_are_picked}
use Rattle.bit_lists.proofs.lemmas.BitsLemmas.{length-bits_of}
use Rattle.bit_lists.proofs.lemmas.CountLemmas.{count_before-le, ones_before_more, ones_before-bits_of_in_word}
use Rattle.bit_lists.proofs.lemmas.NumberLemmas.{number_at-lt}
use Rattle.bit_lists.proofs.lemmas.PickLemmas.{Picks-rank, from-Picks, rank_below}
use Rattle.bit_lists.proofs.lemmas.WordLemmas.{truth}
use Rattle.bit_lists.proofs.Callers.{last_one}
use Rattle.bit_lists.specs.Bits.{bits_of, item}
use Rattle.bit_lists.specs.Count.{ones_before, ones_of, bit_positions, HasOneTo, IsLastTo, Picks}
use Rattle.elias_fano.specs.Low.{unread, HasFragments}
use Rattle.elias_fano.specs.Parts.{ArePartsOf}
use Rattle.elias_fano_view.proofs.CheckLemmas.{held_is, held_of_pick, ones-all}
use Rattle.elias_fano_view.proofs.FollowLemmas.{position-is, position-of, FollowAt}
use Rattle.elias_fano_view.specs.Checks.{held_item, low_item, AreFirstNumbers, FollowsOne, NeighboursRise}

both_are : (a b : Bool) → (a && b) ≡ true → (a ≡ true) × (b ≡ true)
both_are true b e = (refl, e)
both_are false b e = absurd (false≢true e)

module _ (gap l : ℕ) (low words : List ℕ) where
  -- low bits rise at the 1 bit of position p
  abbrev pub RisesAt : ℕ → Type 0
  RisesAt p = low_item l low (ones_before (bits_of words) p - 1) + gap ≤ low_item l low (ones_before (bits_of words) p)

  pub neighbours-none : (s : ℕ) → NeighboursRise gap l low words s s
  neighbours-none s p from less follows = absurd (omega arith)

  pub neighbours-more : (s m e : ℕ) → NeighboursRise gap l low words s m → NeighboursRise gap l low words m e → NeighboursRise gap l low words s e
  neighbours-more s m e first second p from less follows =
      ⊎_elim (λ before. first p from before follows) (λ later. second p later less follows) (cases_lt p m)

  pub neighbours-part : (s e s' e' : ℕ) → s ≤ s' → e' ≤ e → NeighboursRise gap l low words s e → NeighboursRise gap l low words s' e'
  neighbours-part s e s' e' low_end high_end h p from less follows = h p (omega arith) (omega arith) follows

  -- ---- in one word, whose digits `after` say which bits follow another

  module _ (k after : ℕ) where
    -- they rise at the first m of these bits
    abbrev pub AreMet : ℕ → Type 0
    AreMet m = (i : ℕ) → i < m → RisesAt (64 * k + get_or (bit_positions true 0 (bits_of (after ∷ []))) i 0)

    pub met-none : AreMet 0
    met-none i less = absurd (omega arith)

    -- and at one more
    pub met-step : (m p : ℕ) (so_far here : Bool) → p ≡ get_or (bit_positions true 0 (bits_of (after ∷ []))) m 0 → (so_far ≡ true) ↔ AreMet m
        → (here ≡ true) ↔ RisesAt (64 * k + p) → ((so_far && here) ≡ true) ↔ AreMet (m + 1)
    met-step m p so_far here is before one = (
      λ both i less.
          let parts = both_are so_far here both in
          ⊎_elim (λ early. before.0 parts.0 i early)
          (λ late.
          let same : m ≡ i = omega arith in
          subst (λ q. RisesAt (64 * k + q)) (is ∙ ap (λ t. get_or (bit_positions true 0 (bits_of (after ∷ []))) t 0) same) (one.0 parts.1))
          (cases_lt i m),
      λ all. both_true (before.1 (λ i less. all i (omega arith)))
          (one.1 (subst (λ q. RisesAt (64 * k + q)) (sym is) (all m (omega arith)))),
    )

    pub met-all : FollowAt words k after → AreMet (length (bit_positions true 0 (bits_of (after ∷ [])))) → NeighboursRise gap l low words (64 * k) (64 * (k + 1))
    met-all are all p from less follows =
        let there : p ≡ 64 * k + (p - 64 * k) = omega arith in
        let small : p - 64 * k < 64 = omega arith in
        let one = (are (p - 64 * k) small).1 (subst (FollowsOne (bits_of words)) there follows) in
        let found = position-of after (p - 64 * k) small one in
        subst RisesAt (ap (λ j. 64 * k + j) found.1 ∙ sym there) (all _ found.0)

    pub all-met : FollowAt words k after → NeighboursRise gap l low words (64 * k) (64 * (k + 1)) → AreMet (length (bit_positions true 0 (bits_of (after ∷ []))))
    all-met are h i less =
        let is = position-is after i less in
        h (64 * k + get_or (bit_positions true 0 (bits_of (after ∷ []))) i 0) (omega arith) (omega (arith, is.0)) ((are _ is.0).0 is.1)

-- ---- word after word

module _ (words : List ℕ) where
  pub word-ones : (k : ℕ) → k < length words → get_or words k 0 < 2 ^ 64
      → ones_before (bits_of words) (64 * k) + count_ones (get_or words k 0) ≡ ones_before (bits_of words) (64 * (k + 1))
  word-ones k inside fits =
      let next : 64 * k + 64 ≡ 64 * (k + 1) = omega arith in
      omega (arith, ones_before-bits_of_in_word words k inside 64 (omega arith), ap count_ones (mod-eq_of_lt fits), ap (ones_before (bits_of words)) next)

  pub ones-few : (p : ℕ) → p ≤ 64 * length words → ones_before (bits_of words) p ≤ p
  ones-few p inside = omega (arith, ones_and_zeros (bits_of words) p (omega (arith, inside, length-bits_of words)))

  pub ones-among : (p : ℕ) → p ≤ 64 * length words → ones_before (bits_of words) p ≤ ones_of (bits_of words)
  ones-among p inside = count_before-le (bits_of words) true p (length (bits_of words)) (omega (arith, inside, length-bits_of words))

  module _ (gap l : ℕ) (low : List ℕ) (n ones k : ℕ) (end : k ≡ length words) (count : ones ≡ ones_before (bits_of words) (64 * k))
      (rise : NeighboursRise gap l low words 0 (64 * k)) where
    pub all-rise : (eqb ones n ≡ true) ↔ ((ones_of (bits_of words) ≡ n) × NeighboursRise gap l low words 0 (64 * length words))
    all-rise =
        let all : 64 * k ≡ length (bits_of words) = omega (arith, end, length-bits_of words) in
        let total : ones ≡ ones_of (bits_of words) = count ∙ ap (ones_before (bits_of words)) all in (
          λ same. (sym total ∙ eqb-true ones n same, neighbours-part gap l low words 0 (64 * k) 0 (64 * length words) (omega arith) (omega (arith, end)) rise),
          λ h. eq-eqb ones n (total ∙ h.0),
        )

-- ---- the last 1 bit

pub last-same : (b : List Bool) (s p q : ℕ) → IsLastTo b true s p → IsLastTo b true s q → p ≡ q
last-same b s p q h g =
    ⊎_elim (λ less. absurd (false≢true (sym (h.greatest q less g.to) ∙ g.is)))
    (λ le. ⊎_elim (λ less. absurd (false≢true (sym (g.greatest p less h.to) ∙ h.is))) (λ ge. omega arith) (cases_lt q p))
    (cases_lt p q)

-- ---- what rises

module _ (gap n l : ℕ) (low words : List ℕ) (small : gap ≤ 1) (fragments : HasFragments (unread low l) n) (ones : ones_of (bits_of words) ≡ n)
    (rise : NeighboursRise gap l low words 0 (64 * length words)) where
  pick : (i : ℕ) → i < n → Picks (bits_of words) true i (get_or (bit_positions true 0 (bits_of words)) i 0)
  pick i less = positions_are_picked (bits_of words) true i (omega (arith, positions_are_counted (bits_of words) true, ones))

  low-small : (i : ℕ) → i < n → low_item l low i < 2 ^ l
  low-small i less =
      let room : (i + 1) * l ≤ n * l = mul-le-mul_right l (let e : i + 1 ≤ n = omega arith in e) in
      number_at-lt (bits_of low) (i * l) l (omega (arith, bits_are_counted low, fragments.inside))

  pub held-next : (i : ℕ) → i + 1 < n → held_item l low words i + gap ≤ held_item l low words (i + 1)
  held-next i less =
      let b = bits_of words in
      let p = get_or (bit_positions true 0 b) i 0 in
      let q = get_or (bit_positions true 0 b) (i + 1) 0 in
      let here = pick i (omega arith) in
      let there = pick (i + 1) less in
      let late : i ≤ p = omega (arith, ones_and_zeros b p (omega (arith, here.inside)), here.before) in
      let counted : ones_before b (p + 1) ≡ i + 1 = omega (arith, ones_before_more b p here.inside, ap truth here.item, here.before) in
      let order : p + 1 ≤ q = from-Picks b true (p + 1) (i + 1) q (omega (arith, counted)) there in
      ⊎_elim
      (λ beside.
      let back : q - 1 ≡ p = omega (arith, beside) in
      let follows : FollowsOne b q = (omega (arith, beside), ap (item b) back ∙ here.item, there.item) in
      let rank : ones_before b q - 1 ≡ i = omega (arith, there.before) in
      let rises = rise q (omega arith) (omega (arith, there.inside, length-bits_of words)) follows in
      let above : q - (i + 1) ≡ p - i = omega (arith, beside, late) in
      omega (arith, rises, ap (low_item l low) rank, ap (low_item l low) there.before, ap (λ a. a * 2 ^ l) above))
      (λ apart.
      let above : (p - i + 1) * 2 ^ l ≤ (q - (i + 1)) * 2 ^ l = mul-le-mul_right (2 ^ l) (let e : p - i + 1 ≤ q - (i + 1) = omega (arith, apart, order, late) in e) in
      omega (arith, above, low-small i (omega arith), small))
      (cases_eq q (p + 1))

  held-on : (i d : ℕ) → i + d < n → held_item l low words i ≤ held_item l low words (i + d)
  held-on i zero less =
      let same : i + 0 ≡ i = omega arith in omega (arith, ap (held_item l low words) same)
  held-on i (suc d) less =
      let next : i + suc d ≡ i + d + 1 = omega arith in
      omega (arith, held-on i d (omega arith), held-next (i + d) (omega arith), ap (held_item l low words) next)

  held-order : (i j : ℕ) → i ≤ j → j < n → held_item l low words i ≤ held_item l low words j
  held-order i j le less =
      let to : i + (j - i) ≡ j = omega arith in
      omega (arith, held-on i (j - i) (omega arith), ap (held_item l low words) to)

  pub are-numbers : (last : ℕ) → (0 < n → last ≡ held_item l low words (n - 1)) → (n ≡ 0 → last ≡ 0) → last < 2 ^ 64 → AreFirstNumbers l low words n last
  are-numbers last is none fits = record {
    rising = held-order;
    small = λ j less. omega (arith, held-order j (n - 1) (omega arith) (omega arith), is (omega arith), fits);
    last_is = is;
    none = none;
  }

  -- the last 1 bit is that of the last number
  module _ (some : 0 < n) where
    pub words-some : 0 < length words
    words-some = omega (arith, (pick (n - 1) (omega arith)).inside, length-bits_of words)

    pub one-to : HasOneTo (bits_of words) (length words * 64 - 1)
    one-to =
        let one = pick (n - 1) (omega arith) in
        (get_or (bit_positions true 0 (bits_of words)) (n - 1) 0, omega (arith, one.inside, length-bits_of words), one.item)

    pub last-picked : (p : ℕ) → IsLastTo (bits_of words) true (length words * 64 - 1) p → Picks (bits_of words) true (n - 1) p
    last-picked p h =
        let b = bits_of words in
        let q = get_or (bit_positions true 0 b) (n - 1) 0 in
        let one : Picks b true (n - 1) q = pick (n - 1) (omega arith) in
        let s = length words * 64 - 1 in
        let within : s < length b = omega (arith, words-some, length-bits_of words) in
        let end : s + 1 ≡ length b = omega (arith, words-some, length-bits_of words) in
        let all : ones_before b (s + 1) ≡ n - 1 + 1 = omega (arith, ap (ones_before b) end, ones) in
        subst (λ t. Picks b true (n - 1) t) (sym (last-same b s p q h (last_one b s (n - 1) q within all one))) one

  pub last-late : (p : ℕ) → Picks (bits_of words) true (n - 1) p → n - 1 ≤ p
  last-late p one = omega (arith, ones_and_zeros (bits_of words) p (omega (arith, one.inside)), one.before)

-- ---- what is held of a sequence

module _ (gap : ℕ) (xs : List ℕ) (n l : ℕ) (low words : List ℕ) (h : ArePartsOf xs n l low words)
    (steps : (i : ℕ) → i + 1 < n → get_or xs i 0 + gap ≤ get_or xs (i + 1) 0) where
  pub parts-rise : NeighboursRise gap l low words 0 (64 * length words)
  parts-rise p from less follows =
      let b = bits_of words in
      let i = ones_before b (p - 1) in
      let back : p - 1 + 1 ≡ p = omega (arith, follows.0) in
      let inside : p < length b = omega (arith, length-bits_of words) in
      let next : ones_before b p ≡ i + 1 = omega (arith, ones_before_more b (p - 1) (omega (arith, inside)), ap truth follows.1, ap (ones_before b) back) in
      let first : Picks b true i (p - 1) = Picks-rank b true (p - 1) (omega (arith, inside)) follows.1 in
      let second : Picks b true (i + 1) p = subst (λ r. Picks b true r p) next (Picks-rank b true p inside follows.2) in
      let among : i + 1 < n = omega (arith, rank_below b true (i + 1) p second, ones-all xs n l low words h) in
      let here = held_of_pick l low words i (p - 1) first in
      let there = held_of_pick l low words (i + 1) p second in
      let above : p - (i + 1) ≡ p - 1 - i = omega arith in
      let rank : ones_before b p - 1 ≡ i = omega (arith, next) in
      omega (
        arith,
        here,
        there,
        held_is xs n l low words h i (omega (arith, among)),
        held_is xs n l low words h (i + 1) among,
        steps i among,
        ap (λ a. a * 2 ^ l) above,
        ap (low_item l low) rank,
        ap (low_item l low) next,
      )

-- numbers of a sequence never decrease
pub sequence-rise : (xs : List ℕ) (n l : ℕ) (low words : List ℕ) → ArePartsOf xs n l low words → NeighboursRise 0 l low words 0 (64 * length words)
sequence-rise xs n l low words h =
    parts-rise 0 xs n l low words h (λ i less.
    let order = h.sequence.rising i (i + 1) 0 (omega arith) (omega (arith, less, h.count)) in omega (arith, order))

-- an option that is the number where it is small
pub claimed : (o : Option ℕ) (small : Type 0) (number : ℕ) (A : Type 0) (B : ℕ → Type 0) → SomeIff o small number → (¬ small → A) → (small → B number)
    → MatchOption o A B
claimed None small number A B h large right = large h
claimed (Some x) small number A B h large right = subst B (sym h.1) (right h.0)

-- numbers of a sequence rise strictly exactly where their neighbours do
pub strictly-rise : (xs : List ℕ) (n l : ℕ) (low words : List ℕ) → ArePartsOf xs n l low words → HasFragments (unread low l) n → (r : Bool)
    → (r ≡ true) ↔ ((ones_of (bits_of words) ≡ n) × NeighboursRise 1 l low words 0 (64 * length words)) → (r ≡ true) ↔ IsStrictlyIncreasing xs
strictly-rise xs n l low words h fragments r is = (
  λ yes k less.
      let both = is.0 yes in
      let within : k + 1 < n = omega (arith, less, h.count) in
      omega (
        arith,
        held-next 1 n l low words (omega arith) fragments both.0 both.1 k within,
        held_is xs n l low words h k (omega (arith, within)),
        held_is xs n l low words h (k + 1) within,
      ),
  λ rises. is.1 (
    ones-all xs n l low words h,
    parts-rise 1 xs n l low words h (λ i less. let one = rises i (omega (arith, less, h.count)) in omega (arith, one)),
  ),
)
