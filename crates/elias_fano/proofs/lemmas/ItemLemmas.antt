-- The items that the two vectors hold are those of the sequence.
use Rattle.std.proofs.Common.{◌≡◌, ℕ, ◌+◌, ◌-◌, ◌*◌, ◌/◌, ◌^◌, ◌<◌, ◌≤◌, true, List, [], length, get_or, sym, refl, ap, ◌∙◌, arith, subst}
use Rattle.std.proofs.lemmas.Grind.{same_number_lists}
use Rattle.std.proofs.lemmas.List.FromFn.{length-map-range_with_len, get_or-map-range_with_len}
use Rattle.std.proofs.lemmas.Nat.{div-add-mod'}
use Rattle.std.specs.Int.{div_ceil}
use Rattle.bit_lists.proofs.BitLaws.{no_items_are_zero}
use Rattle.bit_lists.specs.Bits.{bits_of, IsShort}
use Rattle.bit_lists.specs.Count.{bit_positions}
use Rattle.bit_lists.specs.Number.{number_at}
use Rattle.elias_fano.specs.SequenceParts.{HaveLengths}
use Rattle.elias_fano.specs.Low.{unread, HasFragments, Lows}
use Rattle.elias_fano.specs.Parts.{upper_position, IsLow, ArePartsOf, HasFragment, HasOneAt, items_of}
use Rattle.elias_fano.specs.Sequence.{largest}
use Rattle.elias_fano.proofs.lemmas.LowLemmas.{fragment-inside}
use Rattle.elias_fano.proofs.lemmas.SizeLemmas.{upper_few_at, width-small}
use Rattle.elias_fano.proofs.lemmas.UpperLemmas.{position_of, position_is}

-- what stands above the low digits, and these, are the item
item_is : (xs : List ℕ) (l i p : ℕ) (low : List ℕ) → IsLow xs l low → i < length xs → p ≡ upper_position xs l i
    → (p - i) * 2 ^ l + number_at (bits_of low) (i * l) l ≡ get_or xs i 0
item_is xs l i p low h inside at =
    let x = get_or xs i 0 in
    let above : p - i ≡ x / 2 ^ l = omega arith in
    ap (λ k. k * 2 ^ l + number_at (bits_of low) (i * l) l) above
    ∙ ap (λ k. x / 2 ^ l * 2 ^ l + k) (h.fragments i inside)
    ∙ div-add-mod' x (2 ^ l)

-- the two vectors hold the sequence
pub items_of-is : (xs : List ℕ) (n l : ℕ) (low upper : List ℕ) → ArePartsOf xs n l low upper → items_of n l low upper ≡ xs
items_of-is xs n l low upper h =
    same_number_lists (items_of n l low upper) xs len
    (λ i less.
    let inside : i < length xs = omega (arith, len) in
    get_or-map-range_with_len item 0 n i i 0 (omega (arith, h.count)) (omega arith)
    ∙ item_is xs l i (get_or (bit_positions true 0 (bits_of upper)) i 0) low h.low_is inside (position_of xs l upper i h.upper_is inside))
  where
    item : ℕ → ℕ
    item i = (get_or (bit_positions true 0 (bits_of upper)) i 0 - i) * 2 ^ l + number_at (bits_of low) (i * l) l

    len : length (items_of n l low upper) ≡ length xs
    len = length-map-range_with_len item 0 n ∙ h.count

-- so they are the vectors of what they hold
pub parts_of_items : (xs : List ℕ) (n l : ℕ) (low upper : List ℕ) → ArePartsOf xs n l low upper
    → ArePartsOf (items_of n l low upper) n l low upper
parts_of_items xs n l low upper h =
    let P : List ℕ → Type 0 = λ ys. ArePartsOf ys n l low upper in
    subst P (sym (items_of-is xs n l low upper h)) h

-- no low digits, and above them the whole
pub joined-none : (above at w : ℕ) (low : List ℕ) → w ≡ 0
    → above ≡ above * 2 ^ w + number_at (bits_of low) (at * w) w
joined-none above at w low none =
    let rest : number_at (bits_of low) (at * w) w ≡ 0 =
    ap (λ k. number_at (bits_of low) (at * k) k) none ∙ no_items_are_zero (bits_of low) (at * 0) in
    let whole : above * 2 ^ w ≡ above * 1 = ap (λ k. above * 2 ^ k) none in
    omega arith

-- the width and the upper vector of parts are small
module _ (xs : List ℕ) (n l : ℕ) (low upper : List ℕ) (h : ArePartsOf xs n l low upper) where
  pub parts-width : l ≤ 63
  parts-width = omega (arith, h.width, width-small xs h.sequence.small)

  pub upper-short : IsShort upper
  upper-short = omega (arith, h.upper_is.words, upper_few_at xs l (largest xs) h.width refl, h.sequence.short)

  -- and their lengths are those of parts
  pub parts-lengths : HaveLengths n l low upper []
  parts-lengths = record {
    short = omega (arith, h.count, h.sequence.short);
    width = parts-width;
    low = h.low_is.words ∙ ap (λ k. div_ceil (k * l) 64) (sym h.count);
    hints = λ some. absurd (omega (arith, some));
  }

-- there are as many fragments of low digits as items
pub parts-fragments : (xs : List ℕ) (n : ℕ) (low : Lows) (upper : List ℕ) → ArePartsOf xs n low.width low.words upper
    → HasFragments low n
parts-fragments xs n low upper h =
    let h' = parts-lengths xs n low.width low.words upper h in
    record { width = h'.width; short = h'.short; inside = omega (arith, h'.low) }

-- the one of an item stands in the parts where nothing was read of the low digits
pub unread-has : (xs : List ℕ) (n l : ℕ) (words upper : List ℕ) (i p : ℕ) (low : Lows) → low ≡ unread words l
    → HasOneAt xs n l words upper i p → HasOneAt xs n low.width low.words upper i p
unread-has xs n l words upper i p low same h =
    let P : Lows → Type 0 = λ digits. HasOneAt xs n digits.width digits.words upper i p in
    subst P (sym same) h

-- one item, from the position of its one
module _ (xs : List ℕ) (n l : ℕ) (low upper : List ℕ) (i p : ℕ) (h : HasOneAt xs n l low upper i p) where
  inside : i < length xs
  inside = omega (arith, h.parts.count, h.inside)

  at : p ≡ upper_position xs l i
  at = position_is xs l upper i p h.parts.upper_is inside h.one

  -- its low digits are inside
  pub fragment-of : HasFragment low i l
  fragment-of = record {
    width = parts-width xs n l low upper h.parts;
    short = omega (arith, inside, h.parts.sequence.short);
    inside = fragment-inside xs l i low inside h.parts.low_is.words;
  }

  -- no position comes before as many ones
  pub position-after : i ≤ p
  position-after = omega (arith, at)

  pub held-is : (p - i) * 2 ^ l + number_at (bits_of low) (i * l) l ≡ get_or xs i 0
  held-is = item_is xs l i p low h.parts.low_is inside at

  pub held-fits : (p - i) * 2 ^ l + number_at (bits_of low) (i * l) l < 2 ^ 64
  held-fits = omega (arith, held-is, h.parts.sequence.small i 0 inside)
