-- The numbers that a walk over the ones finds, and the sequence that they are.
use Rattle.std.proofs.Common.{◌≡◌, ℕ, ◌+◌, ◌-◌, ◌*◌, ◌/◌, ◌%◌, ◌^◌, ◌<◌, ◌≤◌, true, false, List, [], ◌∷◌, length, get_or, refl, sym, ap, ◌∙◌, ⊎_elim, arith}
use Rattle.std.proofs.lemmas.Bool.{cases_lt, cases_eq}
use Rattle.std.proofs.lemmas.Grind.{same_number_lists}
use Rattle.std.proofs.lemmas.List.FromFn.{length-map-range_with_len, get_or-map-range_with_len}
use Rattle.std.proofs.lemmas.Nat.{div-mul-add, mod-mul-add, pow-add, mul-add-lt}
use Rattle.std.proofs.Math.Nat.{mul-le-mul_right}
use Rattle.std.specs.Int.{div_ceil}
use Rattle.bit_lists.proofs.BitLaws.{bits_are_counted, ones_and_zeros, at_most_one_picked, positions_are_picked, positions_are_counted}
use Rattle.bit_lists.proofs.lemmas.NumberLemmas.{number_at-lt}
use Rattle.bit_lists.proofs.lemmas.PickLemmas.{rank_below}
use Rattle.bit_lists.specs.Bits.{bits_of, item}
use Rattle.bit_lists.specs.Count.{ones_of, bit_positions, Picks}
use Rattle.bit_lists.specs.Number.{number_at}
use Rattle.elias_fano.proofs.lemmas.ItemLemmas.{held-is}
use Rattle.elias_fano.proofs.lemmas.UpperLemmas.{positions_are}
use Rattle.elias_fano.specs.Low.{unread, HasFragments}
use Rattle.elias_fano.specs.Parts.{width_at, upper_position, upper_positions, items_of, ArePartsOf}
use Rattle.elias_fano.specs.Sequence.{largest, IsSequence}
use Rattle.elias_fano_view.specs.Checks.{held_item, AreFirstNumbers}
use Rattle.elias_fano_view.specs.Sizes.{upper_words_at}

-- ---- a number below 2^64

module _ (a w f : ℕ) (narrow : w ≤ 63) (low : f < 2 ^ w) where
  power : 2 ^ 64 ≡ 2 ^ (64 - w) * 2 ^ w
  power = let e : 64 ≡ (64 - w) + w = omega arith in ap (λ k. 2 ^ k) e ∙ pow-add 2 (64 - w) w

  pub joined-fits : a < 2 ^ (64 - w) → a * 2 ^ w + f < 2 ^ 64
  joined-fits few =
      let whole : a * 2 ^ w + f < 2 ^ w * 2 ^ (64 - w) = mul-add-lt a (2 ^ w) f (2 ^ (64 - w)) few low in
      omega (arith, power)

  pub joined-small : a * 2 ^ w + f < 2 ^ 64 → a < 2 ^ (64 - w)
  joined-small fits =
      ⊎_elim (λ less. less)
      (λ more.
      let whole : 2 ^ (64 - w) * 2 ^ w ≤ a * 2 ^ w = mul-le-mul_right (2 ^ w) more in
      absurd (omega (arith, power)))
      (cases_lt a (2 ^ (64 - w)))

-- ---- the number of a 1 bit

module _ (l : ℕ) (low words : List ℕ) where
  -- item i of the positions is what rank i picks
  pub position_of_pick : (i p : ℕ) → Picks (bits_of words) true i p → get_or (bit_positions true 0 (bits_of words)) i 0 ≡ p
  position_of_pick i p one =
      let b = bits_of words in
      let some : i < length (bit_positions true 0 b) = omega (arith, positions_are_counted b true, rank_below b true i p one) in
      at_most_one_picked b true i _ p (positions_are_picked b true i some) one

  pub held_of_pick : (i p : ℕ) → Picks (bits_of words) true i p
      → held_item l low words i ≡ (p - i) * 2 ^ l + number_at (bits_of low) (i * l) l
  held_of_pick i p one = ap (λ q. (q - i) * 2 ^ l + number_at (bits_of low) (i * l) l) (position_of_pick i p one)

-- ---- what is held of a sequence

module _ (xs : List ℕ) (n l : ℕ) (low words : List ℕ) (h : ArePartsOf xs n l low words) where
  pub held_is : (i : ℕ) → i < n → held_item l low words i ≡ get_or xs i 0
  held_is i less =
      let some : i < length (bit_positions true 0 (bits_of words)) = omega (arith, positions_are xs l words h.upper_is, h.count) in
      held-is xs n l low words i _ record {
        parts = h;
        inside = less;
        one = positions_are_picked (bits_of words) true i some;
      }

  pub ones-all : ones_of (bits_of words) ≡ n
  ones-all = omega (arith, positions_are_counted (bits_of words) true, positions_are xs l words h.upper_is, h.count)

  -- the last number is the largest
  pub last-largest : (last : ℕ) → AreFirstNumbers l low words n last → last ≡ largest xs
  last-largest last a =
      ⊎_elim (λ e. a.none e ∙ sym (none xs (omega (arith, e, h.count))))
      (λ some.
      let there : n - 1 ≡ length xs - 1 = omega (arith, h.count) in
      a.last_is (omega arith) ∙ held_is (n - 1) (omega arith) ∙ ap (λ i. get_or xs i 0) there)
      (cases_eq n 0)
    where
      none : (ys : List ℕ) → length ys ≡ 0 → largest ys ≡ 0
      none [] e = refl
      none (y ∷ ys) e = absurd (omega arith)

  -- the width and the number of upper words follow from the number of the numbers and the last
  pub sizes-agree : (last : ℕ) → AreFirstNumbers l low words n last → (width_at n last ≡ l) × (upper_words_at n last l ≡ length words)
  sizes-agree last a =
      let u = last-largest last a in
      let count : length xs ≡ n = sym h.count in (
        ap (λ k. width_at k last) h.count ∙ ap (width_at (length xs)) u ∙ sym h.width,
        ap (λ k. upper_words_at k last l) h.count ∙ ap (λ v. upper_words_at (length xs) v l) u ∙ sym h.upper_is.words,
      )

-- ---- what is held is a sequence

module _ (n l last : ℕ) (low words : List ℕ) (fragments : HasFragments (unread low l) n) (a : AreFirstNumbers l low words n last)
    (ones : ones_of (bits_of words) ≡ n) where
  ys : List ℕ
  ys = items_of n l low words

  -- as many numbers as said
  len : length ys ≡ n
  unfolding ys
  len = length-map-range_with_len (held_item l low words) 0 n

  at : (i d : ℕ) → i < n → get_or ys i d ≡ held_item l low words i
  unfolding ys
  at i d less = get_or-map-range_with_len (held_item l low words) 0 n i i d less (omega arith)

  fragment-small : (i : ℕ) → i < n → number_at (bits_of low) (i * l) l < 2 ^ l
  fragment-small i less =
      let room : (i + 1) * l ≤ n * l = mul-le-mul_right l (let e : i + 1 ≤ n = omega arith in e) in
      number_at-lt (bits_of low) (i * l) l (omega (arith, bits_are_counted low, fragments.inside))

  -- a one has at least as many positions before it as ones
  position-after : (i : ℕ) → i < n → i ≤ get_or (bit_positions true 0 (bits_of words)) i 0
  position-after i less =
      let b = bits_of words in
      let one = positions_are_picked b true i (omega (arith, positions_are_counted b true, ones)) in
      omega (arith, ones_and_zeros b (get_or (bit_positions true 0 b) i 0) (omega (arith, one.inside)), one.before)

  upper_at : (i : ℕ) → i < n → get_or (bit_positions true 0 (bits_of words)) i 0 ≡ upper_position ys l i
  upper_at i less =
      let p = get_or (bit_positions true 0 (bits_of words)) i 0 in
      let above : get_or ys i 0 / 2 ^ l ≡ p - i =
      ap (λ x. x / 2 ^ l) (at i 0 less) ∙ div-mul-add (p - i) (2 ^ l) (number_at (bits_of low) (i * l) l) (fragment-small i less) in
      omega (arith, above, position-after i less)

  largest-last : largest ys ≡ last
  largest-last =
      ⊎_elim (λ e. none ys (omega (arith, e, len)) ∙ sym (a.none e))
      (λ some.
      let there : length ys - 1 ≡ n - 1 = omega (arith, len) in
      ap (λ i. get_or ys i 0) there ∙ at (n - 1) 0 (omega arith) ∙ sym (a.last_is (omega arith)))
      (cases_eq n 0)
    where
      none : (zs : List ℕ) → length zs ≡ 0 → largest zs ≡ 0
      none [] e = refl
      none (z ∷ zs) e = absurd (omega arith)

  sequence : IsSequence ys
  sequence = record {
    rising = λ i j d le less. omega (arith, at i d (omega (arith, le, less, len)), at j d (omega (arith, less, len)), a.rising i j le (omega (arith, less, len)));
    short = omega (arith, len, fragments.short);
    small = λ k d less. omega (arith, at k d (omega (arith, less, len)), a.small k (omega (arith, less, len)));
  }

  pub parts : width_at n last ≡ l → upper_words_at n last l ≡ length words → length low ≡ div_ceil (n * l) 64
      → ((p : ℕ) → n * l ≤ p → item (bits_of low) p ≡ false) → ArePartsOf (items_of n l low words) n l low words
  unfolding ys
  parts width count low_len zeros = record {
    sequence = sequence;
    count = sym len;
    width = sym width ∙ ap (λ k. width_at k last) (sym len) ∙ ap (width_at (length ys)) (sym largest-last);
    low_is = record {
      words = low_len ∙ ap (λ k. div_ceil (k * l) 64) (sym len);
      fragments = λ i less.
          let inside : i < n = omega (arith, less, len) in
          sym (ap (λ x. x % 2 ^ l) (at i 0 inside)
          ∙ mod-mul-add (get_or (bit_positions true 0 (bits_of words)) i 0 - i) (2 ^ l) (number_at (bits_of low) (i * l) l) (fragment-small i inside));
      after = λ p past. zeros p (omega (arith, past, ap (λ k. k * l) len));
    };
    upper_is = record {
      words = sym count ∙ ap (λ k. upper_words_at k last l) (sym len) ∙ ap (λ u. upper_words_at (length ys) u l) (sym largest-last);
      ones =
          let total : length (bit_positions true 0 (bits_of words)) ≡ n = omega (arith, positions_are_counted (bits_of words) true, ones) in
          same_number_lists (bit_positions true 0 (bits_of words)) (upper_positions ys l (length ys))
          (total ∙ sym (length-map-range_with_len (upper_position ys l) 0 (length ys) ∙ len))
          (λ i less.
          let inside : i < n = omega (arith, less, total) in
          upper_at i inside
          ∙ sym (get_or-map-range_with_len (upper_position ys l) 0 (length ys) i i 0 (omega (arith, inside, len)) (omega arith)));
    };
  }
