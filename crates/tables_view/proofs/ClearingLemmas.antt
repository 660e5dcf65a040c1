-- The bits of words that are zeros from some word on.
use Rattle.std.proofs.Common.{◌≡◌, ℕ, ◌+◌, ◌-◌, ◌*◌, ◌/◌, ◌%◌, ◌^◌, ◌<◌, ◌≤◌, Bool, false, List, length, slice_index, eqb, sym, ap, ◌∙◌, inl, inr, arith}
use Rattle.std.proofs.Math.Nat.{zero-mod}
use Rattle.std.proofs.lemmas.Bool.{cases_lt}
use Rattle.std.proofs.lemmas.List.{get_or_past}
use Rattle.std.proofs.lemmas.Nat.Bits.{bit_at-zero}
use Rattle.bit_lists.proofs.lemmas.BitsLemmas.{item-bits_of, length-bits_of}
use Rattle.bit_lists.proofs.lemmas.NumberLemmas.{item-with_number_below, item-with_number_inside, item-with_number_above}
use Rattle.bit_lists.specs.Bits.{bits_of, digit, item}
use Rattle.bit_lists.specs.Number.{with_number}

-- zero has no ones
digit-zero : (j : ℕ) → digit 0 j ≡ false
digit-zero j = ap (λ d. eqb d 1) (bit_at-zero j)

module _ (old new : List ℕ) (first : ℕ) (len : length new ≡ length old) where
  pub kept : ((j : ℕ) → j < first → slice_index new j ≡ slice_index old j) → (i : ℕ) → i < 64 * first
      → item (bits_of new) i ≡ item (bits_of old) i
  kept below i before =
      elim (cases_lt i (64 * length new)) [
        | inl inside ↦
            item-bits_of new i inside ∙ ap (λ w. digit w (i % 64)) (below (i / 64) (omega (arith, before)))
            ∙ sym (item-bits_of old i (omega (arith, inside, len)))
        | inr past ↦
            get_or_past (bits_of new) i false (omega (arith, past, length-bits_of new))
            ∙ sym (get_or_past (bits_of old) i false (omega (arith, past, len, length-bits_of old)))
      ]

  pub cleared : ((j : ℕ) → first ≤ j → slice_index new j ≡ 0) → (i : ℕ) → 64 * first ≤ i → item (bits_of new) i ≡ false
  cleared zeros i from =
      elim (cases_lt i (64 * length new)) [
        | inl inside ↦ item-bits_of new i inside ∙ ap (λ w. digit w (i % 64)) (zeros (i / 64) (omega (arith, from))) ∙ digit-zero (i % 64)
        | inr past ↦ get_or_past (bits_of new) i false (omega (arith, past, length-bits_of new))
      ]

-- and of the word before them, where its bits from some position on are written as the number 0
module _ (old new : List ℕ) (bit : ℕ) (len : length new ≡ length old) (inside : bit / 64 < length old) where
  abbrev pub written : List Bool
  written = with_number (bits_of new) bit (64 - bit % 64) (0 % 2 ^ (64 - bit % 64))

  fits : bit + (64 - bit % 64) ≤ length (bits_of new)
  fits = omega (arith, inside, len, length-bits_of new)

  pub before : ((j : ℕ) → j < bit / 64 + 1 → slice_index new j ≡ slice_index old j) → (i : ℕ) → i < bit → item written i ≡ item (bits_of old) i
  before below i less =
      item-with_number_below (bits_of new) bit (64 - bit % 64) (0 % 2 ^ (64 - bit % 64)) i fits less
      ∙ kept old new (bit / 64 + 1) len below i (omega (arith, less))

  pub from : ((j : ℕ) → bit / 64 + 1 ≤ j → slice_index new j ≡ 0) → (i : ℕ) → bit ≤ i → item written i ≡ false
  from zeros i past =
      elim (cases_lt i (64 * (bit / 64 + 1))) [
        | inl here ↦
            let e : bit + (i - bit) ≡ i = omega (arith, past) in
            ap (item written) (sym e)
            ∙ item-with_number_inside (bits_of new) bit (64 - bit % 64) (0 % 2 ^ (64 - bit % 64)) (i - bit) fits (omega (arith, here, past))
            ∙ ap (λ x. digit x (i - bit)) (zero-mod (2 ^ (64 - bit % 64))) ∙ digit-zero (i - bit)
        | inr later ↦
            item-with_number_above (bits_of new) bit (64 - bit % 64) (0 % 2 ^ (64 - bit % 64)) i fits (omega (arith, later))
            ∙ cleared old new (bit / 64 + 1) len zeros i later
      ]
