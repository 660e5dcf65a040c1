-- Zeros as the ones of negated words.
use Rattle.std.proofs.Common.{◌≡◌, ℕ, zero, suc, ◌+◌, ◌-◌, ◌*◌, ◌/◌, ◌%◌, ◌^◌, ◌<◌, ◌≤◌, Bool, true, false, not, List, length, get_or, sym, refl, ap, ◌∙◌, arith, eqb, map}
use Rattle.std.proofs.lemmas.List.{get_or-map, length-map}
use Rattle.std.proofs.lemmas.Nat.Bits.{bit_at_not, bit_at-lt}
use Rattle.std.specs.Int.{bit_at, bit_not, w64}
use Rattle.bit_lists.proofs.lemmas.BitsLemmas.{item-bits_of_at, length-bits_of}
use Rattle.bit_lists.specs.Bits.{bits_of, digit, item}
use Rattle.bit_lists.specs.Count.{IsFirstFrom, IsLastTo}

-- each word negated
abbrev pub negation : List ℕ → List ℕ
negation words = map (bit_not w64) words

-- a truth that is negated twice
not-not : (x y : Bool) → x ≡ not y → y ≡ not x
not-not true true e = e
not-not true false e = refl
not-not false true e = refl
not-not false false e = e

digit-not : (w j : ℕ) → w < 2 ^ 64 → j < 64 → digit (bit_not w64 w) j ≡ not (digit w j)
digit-not w j fits low = ap (λ d. eqb d 1) (bit_at_not w64 w j fits low) ∙ of_digit (bit_at w j) (bit_at-lt w j)
  where
    of_digit : (x : ℕ) → x < 2 → eqb (1 - x) 1 ≡ not (eqb x 1)
    of_digit zero l = refl
    of_digit (suc zero) l = refl
    of_digit (suc (suc x)) l = absurd (omega arith)

pub length-negation : (words : List ℕ) → length (negation words) ≡ length words
length-negation words = length-map words (bit_not w64)

pub get_or-negation : (words : List ℕ) (k : ℕ) → k < length words → get_or (negation words) k 0 ≡ bit_not w64 (get_or words k 0)
get_or-negation words k inside = get_or-map (bit_not w64) words k 0 0 inside

module _ (words : List ℕ) (fits : (k : ℕ) → get_or words k 0 < 2 ^ 64) where
  pub item-negation : (i : ℕ) → i < 64 * length words → item (bits_of (negation words)) i ≡ not (item (bits_of words) i)
  item-negation i within =
      let q = i / 64 in
      let j = i % 64 in
      let position : i ≡ 64 * q + j = omega arith in
      let low : j < 64 = omega arith in
      item-bits_of_at (negation words) i q j position low (omega (arith, length-negation words))
      ∙ ap (λ w. digit w j) (get_or-negation words q (omega arith))
      ∙ digit-not (get_or words q 0) j (fits q) low
      ∙ ap not (sym (item-bits_of_at words i q j position low (omega arith)))

  -- an item that is negated
  was : (i : ℕ) (v : Bool) → i < 64 * length words → item (bits_of (negation words)) i ≡ v → item (bits_of words) i ≡ not v
  was i v within is = not-not v (item (bits_of words) i) (sym is ∙ item-negation i within)

  -- the first one of the negated words is the first zero
  pub first_zero : (s p : ℕ) → IsFirstFrom (bits_of (negation words)) true s p → IsFirstFrom (bits_of words) false s p
  first_zero s p f =
      let within : p < 64 * length words = omega (arith, f.inside, length-bits_of (negation words), length-negation words) in
      record {
        from = f.from;
        inside = omega (arith, within, length-bits_of words);
        is = was p true within f.is;
        least = λ i after before. was i false (omega (arith, before, within)) (f.least i after before);
      }

  pub no_zero : (s : ℕ) → ((i : ℕ) → s ≤ i → item (bits_of (negation words)) i ≡ false)
      → (i : ℕ) → s ≤ i → i < length (bits_of words) → item (bits_of words) i ≡ true
  no_zero s none i from inside = was i false (omega (arith, inside, length-bits_of words)) (none i from)

  -- and the last one is the last zero
  pub last_zero : (s p : ℕ) → s < 64 * length words → IsLastTo (bits_of (negation words)) true s p → IsLastTo (bits_of words) false s p
  last_zero s p inside f = record {
    to = f.to;
    inside = omega (arith, f.to, inside, length-bits_of words);
    is = was p true (omega (arith, f.to, inside)) f.is;
    greatest = λ i after to. was i false (omega (arith, to, inside)) (f.greatest i after to);
  }

  pub no_zero_to : (s : ℕ) → s < 64 * length words → ((i : ℕ) → i ≤ s → item (bits_of (negation words)) i ≡ false)
      → (i : ℕ) → i ≤ s → item (bits_of words) i ≡ true
  no_zero_to s inside none i to = was i false (omega (arith, to, inside)) (none i to)
