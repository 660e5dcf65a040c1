-- Items with the same number above their low digits: how many have at most a number there, and the first
-- that reaches a value.
use Rattle.std.proofs.Common.{◌≡◌, ℕ, zero, suc, ◌+◌, ◌-◌, ◌*◌, ◌/◌, ◌%◌, ◌^◌, ◌<◌, ◌≤◌, true, false, cond, Bool, List, length, get_or, sym, ap, ◌∙◌, subst, ⊎_elim, arith, ◌⊎◌, inl, inr}
use Rattle.std.proofs.lemmas.Bool.{cases_lt, cases_order}
use Rattle.std.proofs.lemmas.List.{get_or_default}
use Rattle.std.proofs.lemmas.Nat.{div-add-mod', pow_pos}
use Rattle.std.proofs.Math.Nat.{mul-le-mul_right, mod-lt}
use Rattle.std.specs.List.{All}
use Rattle.std.specs.List.Sorted.{IsNonDecreasing}
use Rattle.bit_lists.proofs.BitLaws.{ones_and_zeros, counts_grow, count_after_item, none_before_the_first}
use Rattle.bit_lists.specs.Bits.{bits_of, item}
use Rattle.bit_lists.specs.Count.{ones_before, zeros_before, is_same, IsFirstFrom, Picks}
use Rattle.elias_fano.proofs.lemmas.SplitLemmas.{Splits-same}
use Rattle.elias_fano.proofs.lemmas.UpperLemmas.{one_is, ones_are}
use Rattle.elias_fano.specs.Buckets.{BeginsAt, CountsTo, CountsBelow, HasEnds, LowsRise, Splits}
use Rattle.elias_fano.specs.Low.{fragment, Lows}
use Rattle.elias_fano.specs.Parts.{upper_position, IsUpper, ArePartsOf}
use Rattle.elias_fano.specs.Sequence.{Reaches}

-- a zero has at least as many positions before it as zeros
pub zeros-at_most : (b : List Bool) (z p : ℕ) → Picks b false z p → z ≤ p
zeros-at_most b z p h = omega (arith, ones_and_zeros b p (omega (arith, h.inside)), h.before)

-- ---- how many items have at most z above their low digits: the ones before the zero of that number

module _ (xs : List ℕ) (l : ℕ) (upper : List ℕ) (h : IsUpper xs l upper) where
  one_at : (j : ℕ) → j < length xs → Picks (bits_of upper) true j (upper_position xs l j)
  one_at j inside = one_is xs l upper j h inside

  zeros_at : (j : ℕ) → j < length xs → zeros_before (bits_of upper) (upper_position xs l j) ≡ get_or xs j 0 / 2 ^ l
  zeros_at j inside =
      let one = one_at j inside in
      omega (arith, ones_and_zeros (bits_of upper) (upper_position xs l j) (omega (arith, one.inside)), one.before)

  all_ones : ones_before (bits_of upper) (length (bits_of upper)) ≡ length xs
  all_ones = ones_are xs l upper h

  one_more : (p : ℕ) → p < length (bits_of upper) → item (bits_of upper) p ≡ true
      → ones_before (bits_of upper) (p + 1) ≡ ones_before (bits_of upper) p + 1
  one_more p inside is =
      count_after_item (bits_of upper) true p inside ∙ ap (λ x. ones_before (bits_of upper) p + cond (is_same true x) 1 0) is

  zero_more : (p : ℕ) → p < length (bits_of upper) → item (bits_of upper) p ≡ false
      → zeros_before (bits_of upper) (p + 1) ≡ zeros_before (bits_of upper) p + 1
  zero_more p inside is =
      count_after_item (bits_of upper) false p inside ∙ ap (λ x. zeros_before (bits_of upper) p + cond (is_same false x) 1 0) is

  module _ (z p : ℕ) (zero_at : Picks (bits_of upper) false z p) where
    count : ones_before (bits_of upper) p + z ≡ p
    count = omega (arith, ones_and_zeros (bits_of upper) p (omega (arith, zero_at.inside)), zero_at.before)

    ones_within : p - z ≤ length xs
    ones_within =
        let within : p ≤ length (bits_of upper) = omega (arith, zero_at.inside) in
        omega (arith, count, all_ones, counts_grow (bits_of upper) true p (length (bits_of upper)) within)

    not_here : (j : ℕ) → j < length xs → upper_position xs l j ≡ p → ⊥
    not_here j inside e =
        let both : true ≡ false = sym (one_at j inside).item ∙ ap (item (bits_of upper)) e ∙ zero_at.item in
        cc

    before : (j : ℕ) → j < length xs → upper_position xs l j < p → (j < p - z) × (get_or xs j 0 / 2 ^ l ≤ z)
    before j inside less =
        let one = one_at j inside in
        let position = upper_position xs l j in
        let next : position + 1 ≤ p = omega arith in
        let order : position ≤ p = omega arith in (
          omega (
            arith,
            count,
            one.before,
            one_more position one.inside one.item,
            counts_grow (bits_of upper) true (position + 1) p next,
          ),
          omega (arith, zeros_at j inside, zero_at.before, counts_grow (bits_of upper) false position p order),
        )

    after : (j : ℕ) → j < length xs → p < upper_position xs l j → (p - z ≤ j) × (z < get_or xs j 0 / 2 ^ l)
    after j inside more =
        let one = one_at j inside in
        let position = upper_position xs l j in
        let next : p + 1 ≤ position = omega arith in
        let order : p ≤ position = omega arith in (
          omega (arith, count, one.before, counts_grow (bits_of upper) true p position order),
          omega (
            arith,
            zeros_at j inside,
            zero_at.before,
            zero_more p zero_at.inside zero_at.item,
            counts_grow (bits_of upper) false (p + 1) position next,
          ),
        )

    sides : (j : ℕ) → j < length xs → ((j < p - z) × (get_or xs j 0 / 2 ^ l ≤ z)) ⊎ ((p - z ≤ j) × (z < get_or xs j 0 / 2 ^ l))
    sides j inside =
        ⊎_elim (λ e. absurd (not_here j inside e))
        (λ apart. ⊎_elim (λ less. inl (before j inside less)) (λ more. inr (after j inside more)) apart)
        (cases_order (upper_position xs l j) p)

    pub CountsTo-zero : CountsTo xs l z (p - z)
    CountsTo-zero = record {
      bound = ones_within;
      below = λ j less. ⊎_elim (λ s. s.1) (λ s. absurd (omega (arith, s.0))) (sides j (omega (arith, ones_within)));
      above = λ j from inside. ⊎_elim (λ s. absurd (omega (arith, s.0))) (λ s. s.1) (sides j inside);
    }

  -- before the least position with z zeros before it stand the ones of the items with less above their low digits
  module _ (z p : ℕ) (at : BeginsAt (bits_of upper) z p) where
    ones_to : ones_before (bits_of upper) p + z ≡ p
    ones_to = omega (arith, ones_and_zeros (bits_of upper) p at.inside, at.before)

    begin-bound : p - z ≤ length xs
    begin-bound = omega (arith, ones_to, all_ones, counts_grow (bits_of upper) true p (length (bits_of upper)) at.inside)

    one-before : (j : ℕ) → j < length xs → j < p - z → upper_position xs l j < p
    one-before j inside less =
        let position = upper_position xs l j in
        ⊎_elim (λ before. before)
        (λ back. absurd (omega (arith, ones_to, (one_at j inside).before, counts_grow (bits_of upper) true p position back)))
        (cases_lt position p)

    one-after : (j : ℕ) → j < length xs → p - z ≤ j → p ≤ upper_position xs l j
    one-after j inside more =
        let position = upper_position xs l j in
        let one = one_at j inside in
        ⊎_elim
        (λ before.
        let next : position + 1 ≤ p = omega arith in
        absurd (omega (arith, ones_to, one.before, one_more position one.inside one.item, counts_grow (bits_of upper) true (position + 1) p next)))
        (λ back. back)
        (cases_lt position p)

    pub CountsBelow-begin : CountsBelow xs l z (p - z)
    CountsBelow-begin = record {
      bound = begin-bound;
      below = λ j less.
          let inside : j < length xs = omega (arith, begin-bound) in
          omega (arith, zeros_at j inside, at.least (upper_position xs l j) (one-before j inside less));
      above = λ j from inside.
          let back = one-after j inside from in
          omega (arith, zeros_at j inside, at.before, counts_grow (bits_of upper) false p (upper_position xs l j) back);
    }

  -- where there is no such zero
  pub CountsTo-all : (z : ℕ) → zeros_before (bits_of upper) (length (bits_of upper)) ≤ z → CountsTo xs l z (length xs)
  CountsTo-all z few = record {
    bound = omega arith;
    below = λ j inside.
        let within : upper_position xs l j ≤ length (bits_of upper) = omega (arith, (one_at j inside).inside) in
        omega (arith, few, zeros_at j inside, counts_grow (bits_of upper) false (upper_position xs l j) (length (bits_of upper)) within);
    above = λ j from inside. absurd (omega arith);
  }

-- ---- the first item that reaches a value is among those with the value's upper digits, or the next one

-- more above the low digits is more
pub less_above : (x v p : ℕ) → 0 < p → x / p < v / p → x < v
less_above x v p some less =
    let next : x / p + 1 ≤ v / p = omega arith in
    let times : (x / p + 1) * p ≤ v / p * p = mul-le-mul_right p next in
    omega (arith, div-add-mod' x p, div-add-mod' v p, mod-lt x some)

module _ (xs : List ℕ) (l v first end : ℕ) (before : CountsBelow xs l (v / 2 ^ l) first) (to : CountsTo xs l (v / 2 ^ l) end) where
  same_above : (j : ℕ) → first ≤ j → j < end → get_or xs j 0 / 2 ^ l * 2 ^ l ≡ v / 2 ^ l * 2 ^ l
  same_above j from less =
      let same : get_or xs j 0 / 2 ^ l ≡ v / 2 ^ l = omega (arith, before.above j from (omega (arith, to.bound)), to.below j less) in
      ap (λ k. k * 2 ^ l) same

  module _ (k : ℕ) (s : Splits (λ j. get_or xs j 0 % 2 ^ l) first end (v % 2 ^ l) k) where
    less_before : (j : ℕ) → j < k → get_or xs j 0 < v
    less_before j less =
        ⊎_elim (λ early. less_above (get_or xs j 0) v (2 ^ l) (pow_pos l) (before.below j early))
        (λ from. omega (
          arith,
          s.less j from less,
          same_above j from (omega (arith, s.to)),
          div-add-mod' (get_or xs j 0) (2 ^ l),
          div-add-mod' v (2 ^ l),
        ))
        (cases_lt j first)

    pub Reaches-bucket : k < length xs → Reaches xs v k
    Reaches-bucket inside = record {
      inside = inside;
      at_least = ⊎_elim
          (λ less. omega (
            arith,
            s.at_least k (omega arith) less,
            same_above k s.from less,
            div-add-mod' (get_or xs k 0) (2 ^ l),
            div-add-mod' v (2 ^ l),
          ))
          (λ past. omega (arith, less_above v (get_or xs k 0) (2 ^ l) (pow_pos l) (to.above k past inside)))
          (cases_lt k end);
      before = less_before;
    }

    pub none-bucket : length xs ≤ k → (j : ℕ) → j < length xs → get_or xs j 0 < v
    none-bucket past j inside = less_before j (omega arith)

-- the bucket does not end before it begins
pub bucket-order : (xs : List ℕ) (l h first end : ℕ) → CountsBelow xs l h first → CountsTo xs l h end → first ≤ end
bucket-order xs l h first end before to =
    ⊎_elim
    (λ back.
    let here : end ≤ end = omega arith in
    absurd (omega (arith, before.below end back, to.above end here (omega (arith, before.bound)))))
    (λ order. order)
    (cases_lt end first)

-- low digits do not fall in a bucket
lows-rise : (xs : List ℕ) (l h first end i j : ℕ) → IsNonDecreasing xs → CountsBelow xs l h first → CountsTo xs l h end
    → first ≤ i → i ≤ j → j < end → get_or xs i 0 % 2 ^ l ≤ get_or xs j 0 % 2 ^ l
lows-rise xs l h first end i j rising before to from order less =
    let upper_i : h ≤ get_or xs i 0 / 2 ^ l = before.above i from (omega (arith, to.bound)) in
    let upper_j : h ≤ get_or xs j 0 / 2 ^ l = before.above j (omega arith) (omega (arith, to.bound)) in
    let same : get_or xs i 0 / 2 ^ l ≡ get_or xs j 0 / 2 ^ l = omega (arith, to.below i (omega arith), to.below j less) in
    let times : get_or xs i 0 / 2 ^ l * 2 ^ l ≡ get_or xs j 0 / 2 ^ l * 2 ^ l = ap (λ k. k * 2 ^ l) same in
    omega (
      arith,
      rising i j 0 order (omega (arith, to.bound)),
      div-add-mod' (get_or xs i 0) (2 ^ l),
      div-add-mod' (get_or xs j 0) (2 ^ l),
    )

-- ---- the same of parts

-- the two ends of the bucket of the value v, in a sequence with these parts, and where its low digits part
pub record IsBucket (xs : List ℕ) (low : Lows) (v first end k : ℕ) : Type 0 where
  pub begins : CountsBelow xs low.width (v / 2 ^ low.width) first
  pub ends : CountsTo xs low.width (v / 2 ^ low.width) end
  pub splits : Splits (fragment low) first end (v % 2 ^ low.width) k

module _ (xs : List ℕ) (n : ℕ) (low : Lows) (upper : List ℕ) (h : ArePartsOf xs n low.width low.words upper) where
  splits-items : (v first end k : ℕ) → IsBucket xs low v first end k
      → Splits (λ j. get_or xs j 0 % 2 ^ low.width) first end (v % 2 ^ low.width) k
  splits-items v first end k b =
      Splits-same (fragment low) (λ j. get_or xs j 0 % 2 ^ low.width) first end (v % 2 ^ low.width) k
      (λ j less. h.low_is.fragments j (omega (arith, b.ends.bound))) b.splits

  pub bucket-reaches : (v first end k : ℕ) → IsBucket xs low v first end k → k < n → Reaches xs v k
  bucket-reaches v first end k b inside =
      Reaches-bucket xs low.width v first end b.begins b.ends k (splits-items v first end k b) (omega (arith, h.count))

  pub bucket-none : (v first end k : ℕ) → IsBucket xs low v first end k → n ≤ k → All (λ x. x < v) xs
  bucket-none v first end k b past j d inside =
      omega (
        arith,
        get_or_default xs j d 0 inside,
        none-bucket xs low.width v first end b.begins b.ends k (splits-items v first end k b) (omega (arith, h.count)) j inside,
      )

  -- fragments do not fall in a bucket
  pub fragments-rise : (above first end : ℕ) → CountsBelow xs low.width above first → CountsTo xs low.width above end → LowsRise low first end
  fragments-rise above first end before to i j from order less =
      omega (
        arith,
        lows-rise xs low.width above first end i j h.sequence.rising before to from order less,
        h.low_is.fragments i (omega (arith, to.bound)),
        h.low_is.fragments j (omega (arith, to.bound)),
      )

-- ---- no low digits: the items that begin with the upper digits are those that reach the value

pub whole-reaches : (xs : List ℕ) (v w first : ℕ) → w ≡ 0 → CountsBelow xs w (v / 2 ^ w) first → first < length xs → Reaches xs v first
whole-reaches xs v w first none below inside =
    let P : ℕ → Type 0 = λ l. CountsBelow xs l (v / 2 ^ l) first in
    let h = subst P none below in
    record {
      inside = inside;
      at_least = omega (arith, h.above first (omega arith) inside);
      before = λ j l. omega (arith, h.below j l);
    }

pub whole-none : (xs : List ℕ) (v w first : ℕ) → w ≡ 0 → CountsBelow xs w (v / 2 ^ w) first → length xs ≤ first → All (λ x. x < v) xs
whole-none xs v w first none below past =
    let P : ℕ → Type 0 = λ l. CountsBelow xs l (v / 2 ^ l) first in
    let h = subst P none below in
    λ j d inside. omega (arith, get_or_default xs j d 0 inside, h.below j (omega arith))

-- ---- the zeros of the upper vector, one after another

-- no zero in a stretch: as many stand before its end as before its begin
zeros-over : (b : List Bool) (s k : ℕ) → s + k ≤ length b → ((i : ℕ) → s ≤ i → i < s + k → item b i ≡ true)
    → zeros_before b (s + k) ≡ zeros_before b s
zeros-over b s zero inside ones = ap (zeros_before b) (omega arith)
zeros-over b s (suc k) inside ones =
    let rest = zeros-over b s k (omega arith) (λ i from less. ones i from (omega arith)) in
    let last = ones (s + k) (omega arith) (omega arith) in
    let next : zeros_before b (s + k + 1) ≡ zeros_before b (s + k) =
    count_after_item b false (s + k) (omega arith) ∙ ap (λ x. zeros_before b (s + k) + cond (is_same false x) 1 0) last ∙ omega arith in
    ap (zeros_before b) (omega arith) ∙ next ∙ rest

-- the first zero from a position on has as many before it as the position
pub zero-from : (b : List Bool) (z s p : ℕ) → zeros_before b s ≡ z → IsFirstFrom b false s p → Picks b false z p
zero-from b z s p count first =
    let over = zeros-over b s (p - s) (omega (arith, first.from, first.inside))
    (λ i from less. first.least i from (omega (arith, first.from))) in
    let to = ap (zeros_before b) (let e : s + (p - s) ≡ p = omega (arith, first.from) in e) in
    record { inside = first.inside; item = first.is; before = sym to ∙ over ∙ count }

-- behind a zero begin those with one more before them
pub begin-behind : (b : List Bool) (z p : ℕ) → Picks b false z p → BeginsAt b (z + 1) (p + 1)
begin-behind b z p h = record {
  inside = omega (arith, h.inside);
  before =
      let more : zeros_before b (p + 1) ≡ zeros_before b p + 1 =
      count_after_item b false p h.inside ∙ ap (λ x. zeros_before b p + cond (is_same false x) 1 0) h.item in
      omega (arith, more, h.before);
  least = λ q less. let back : q ≤ p = omega arith in omega (arith, h.before, counts_grow b false q p back);
}

-- before the first position there are none
pub begin-first : (b : List Bool) → BeginsAt b 0 0
begin-first b = record {
  inside = omega arith;
  before = none_before_the_first b false;
  least = λ q less. absurd (omega arith);
}

-- ---- the bucket of a value, from the least position with so many zeros before it

-- no fewer positions than zeros stand before it
pub begin-at_most : (b : List Bool) (z p : ℕ) → BeginsAt b z p → z ≤ p
begin-at_most b z p h = omega (arith, ones_and_zeros b p h.inside, h.before)

module _ (xs : List ℕ) (l v : ℕ) (upper : List ℕ) (h : IsUpper xs l upper) where
  module _ (p : ℕ) (at : BeginsAt (bits_of upper) (v / 2 ^ l) p) where
    begins : CountsBelow xs l (v / 2 ^ l) (p - v / 2 ^ l)
    begins = CountsBelow-begin xs l upper h (v / 2 ^ l) p at

    -- no item has low digits
    pub ends-whole : l ≡ 0 → HasEnds xs l v (p - v / 2 ^ l) (length xs)
    ends-whole none = record { begins = begins; ends = λ some. absurd (omega (arith, some, none)); order = begins.bound }

    -- to where those with these upper digits end
    pub ends-counted : (end : ℕ) → CountsTo xs l (v / 2 ^ l) end → HasEnds xs l v (p - v / 2 ^ l) end
    ends-counted end to = record { begins = begins; ends = λ some. to; order = bucket-order xs l _ _ _ begins to }
