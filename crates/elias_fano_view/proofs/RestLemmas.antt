-- What is left of a word from a bit on: how many 1 bits it has, and the word without the first of them.
use Rattle.std.proofs.Common.{◌≡◌, ◌≢◌, ℕ, ◌+◌, ◌-◌, ◌*◌, ◌/◌, ◌%◌, ◌^◌, ◌<◌, ◌≤◌, true, List, [], ◌∷◌, length, get_or, eqb, bit_and, count_ones, w64, refl, sym, ap, ◌∙◌, ⊎_elim, arith, mod-eq_of_lt}
use Rattle.std.proofs.lemmas.Bool.{cases_order, cases_lt}
use Rattle.std.proofs.lemmas.Nat.{and_comm, and_le_l, and_mask, and-not, ones_cat, ones_le_self, pow_below, pow_pos, shl-shr, shr-shr, shr_split}
use Rattle.std.proofs.lemmas.Nat.Bits.{bit_at-trailing_zeros, bit_at-zero, bit_at_cat_high, bit_at_cat_low, same_from_bits_below}
use Rattle.std.specs.Int.{bit_at, bit_not, trailing_zeros}
use Rattle.bit_lists.proofs.lemmas.BitsLemmas.{item-bits_of_at, length-bits_of}
use Rattle.bit_lists.proofs.lemmas.CountLemmas.{ones_before-bits_of_in_word}
use Rattle.bit_lists.proofs.lemmas.WordLemmas.{bit_at-lowest_cleared_other, bit_at-lowest_cleared_same, bit_at-shr}
use Rattle.bit_lists.specs.Bits.{bits_of}
use Rattle.bit_lists.specs.Count.{ones_before, IsFirstFrom}
use Rattle.bit_words.proofs.lemmas.PositionLemmas.{next_counts}
use Rattle.elias_fano_view.specs.Rests.{IsRestFrom}

-- ---- w with zeros for its d lowest digits

module _ (w d : ℕ) where
  same : w / 2 ^ d * 2 ^ d + 0 ≡ w / 2 ^ d * 2 ^ d
  same = omega arith

  digit-below : (j : ℕ) → j < d → bit_at (w / 2 ^ d * 2 ^ d) j ≡ 0
  digit-below j less = ap (λ x. bit_at x j) (sym same) ∙ bit_at_cat_low (w / 2 ^ d) d 0 j less ∙ bit_at-zero j

  digit-from : (j : ℕ) → d ≤ j → bit_at (w / 2 ^ d * 2 ^ d) j ≡ bit_at w j
  digit-from j from =
      ap (λ x. bit_at x j) (sym same) ∙ bit_at_cat_high (w / 2 ^ d) d 0 j (pow_pos d) from ∙ bit_at-shr w d (j - d) j (omega arith)

  ones-apart : count_ones (w % 2 ^ d) + count_ones (w / 2 ^ d * 2 ^ d) ≡ count_ones w
  ones-apart =
      let low : w % 2 ^ d < 2 ^ d = omega (arith, pow_pos d) in
      omega (
        arith,
        ones_cat d (w / 2 ^ d) (w % 2 ^ d) low,
        ones_cat d (w / 2 ^ d) 0 (pow_pos d),
        ap count_ones (shr_split w d),
        ap count_ones same,
        ones_le_self 0,
      )

  -- `w & !mask`
  masked : (mask : ℕ) → mask ≡ 2 ^ d - 1 → d < 64 → w < 2 ^ 64 → bit_and w (bit_not w64 mask) ≡ w / 2 ^ d * 2 ^ d
  masked mask is few fits =
      let small : mask < 2 ^ 64 = omega (arith, is, pow_below d 64 few) in
      let parts : bit_and (bit_not w64 mask) w + bit_and mask w ≡ w = and-not 64 mask w small fits in
      let low : bit_and mask w ≡ w % 2 ^ d = and_comm mask w ∙ ap (bit_and w) is ∙ and_mask w d in
      omega (arith, parts, low, and_comm w (bit_not w64 mask), shr_split w d)

  -- is as w where more is shifted out
  shr-cleared : (e : ℕ) → d ≤ e → w / 2 ^ d * 2 ^ d / 2 ^ e ≡ w / 2 ^ e
  shr-cleared e more =
      let at : d + (e - d) ≡ e = omega arith in
      sym (ap (λ k. w / 2 ^ d * 2 ^ d / 2 ^ k) at)
      ∙ sym (shr-shr (w / 2 ^ d * 2 ^ d) d (e - d))
      ∙ ap (λ x. x / 2 ^ (e - d)) (shl-shr (w / 2 ^ d) d)
      ∙ shr-shr w d (e - d)
      ∙ ap (λ k. w / 2 ^ k) at

-- `w & (w - 1)`, where the lowest 1 of w is digit t
lowest-cleared : (w t : ℕ) → w < 2 ^ 64 → bit_at w t ≡ 1 → ((i : ℕ) → i < t → bit_at w i ≡ 0)
    → bit_and w (w - 1) ≡ w / 2 ^ (t + 1) * 2 ^ (t + 1)
lowest-cleared w t fits one zeros =
    same_from_bits_below 64 (bit_and w (w - 1)) (w / 2 ^ (t + 1) * 2 ^ (t + 1)) (omega (arith, and_le_l w (w - 1), fits))
    (omega (arith, shr_split w (t + 1), fits))
    (λ j low.
    ⊎_elim
    (λ here.
    ap (bit_at (bit_and w (w - 1))) here ∙ bit_at-lowest_cleared_same w t one zeros ∙ sym (digit-below w (t + 1) j (omega (arith, here))))
    (λ apart.
    let other : j ≢ t = λ e. ⊎_elim (λ less. omega (arith, e, less)) (λ more. omega (arith, e, more)) apart in
    let kept = bit_at-lowest_cleared_other w t one zeros j other in
    ⊎_elim
    (λ less. kept ∙ zeros j less ∙ sym (digit-below w (t + 1) j (omega (arith, less))))
    (λ more. kept ∙ sym (digit-from w (t + 1) j (omega (arith, more))))
    apart)
    (cases_order j t))

-- ---- what is left of a word

-- `word & !mask`
pub masked-rest : (words : List ℕ) (s q w mask : ℕ) → q < length words → 64 * q ≤ s → s < 64 * q + 64
    → w ≡ get_or words q 0 → w < 2 ^ 64 → mask ≡ 2 ^ (s - 64 * q) - 1 → IsRestFrom words s q (bit_and w (bit_not w64 mask))
masked-rest words s q w mask inside begin end read fits is = record {
  inside = inside;
  begin = begin;
  end = omega arith;
  is = masked w (s - 64 * q) mask is (omega arith) fits ∙ ap (λ x. x / 2 ^ (s - 64 * q) * 2 ^ (s - 64 * q)) read;
}

module _ (words : List ℕ) (s q rest : ℕ) (h : IsRestFrom words s q rest) where
  -- its 1 bits are those up to the next word
  pub rest-ones : get_or words q 0 < 2 ^ 64
      → ones_before (bits_of words) s + count_ones rest ≡ ones_before (bits_of words) (64 * (q + 1))
  rest-ones fits =
      let b = bits_of words in
      let w = get_or words q 0 in
      let d = s - 64 * q in
      let at : 64 * q + d ≡ s = omega (arith, h.begin) in
      let next : 64 * q + 64 ≡ 64 * (q + 1) = omega arith in
      let all : w % 2 ^ 64 ≡ w = mod-eq_of_lt fits in
      omega (
        arith,
        ap (ones_before b) at,
        ap (ones_before b) next,
        ap count_ones all,
        ap count_ones h.is,
        ones_before-bits_of_in_word words q h.inside d (omega (arith, h.end)),
        ones_before-bits_of_in_word words q h.inside 64 (omega arith),
        ones-apart w d,
      )

  module _ (some : 0 < rest) (fits : rest < 2 ^ 64) where
    lowest : (trailing_zeros w64 rest < 64) × (bit_at rest (trailing_zeros w64 rest) ≡ 1)
        × ((i : ℕ) → i < trailing_zeros w64 rest → bit_at rest i ≡ 0)
    lowest = bit_at-trailing_zeros w64 rest some fits

    digit-is : (j : ℕ) → s ≤ 64 * q + j → bit_at rest j ≡ bit_at (get_or words q 0) j
    digit-is j from = ap (λ x. bit_at x j) h.is ∙ digit-from (get_or words q 0) (s - 64 * q) j (omega arith)

    late : s ≤ 64 * q + trailing_zeros w64 rest
    late =
        let t = trailing_zeros w64 rest in
        ⊎_elim
        (λ early.
        let none : bit_at rest t ≡ 0 =
        ap (λ x. bit_at x t) h.is ∙ digit-below (get_or words q 0) (s - 64 * q) t (omega (arith, early, h.begin)) in
        absurd (omega (arith, none, lowest.1)))
        (λ le. le)
        (cases_lt (64 * q + t) s)

    -- its lowest 1 bit is the next
    pub first-left : IsFirstFrom (bits_of words) true s (64 * q + trailing_zeros w64 rest)
    first-left =
        let t = trailing_zeros w64 rest in
        record {
          from = late;
          inside = omega (arith, length-bits_of words, h.inside, lowest.0);
          is = item-bits_of_at words (64 * q + t) q t refl lowest.0 h.inside ∙ ap (λ x. eqb x 1) (sym (digit-is t late) ∙ lowest.1);
          least = λ i from before.
              let j = i - 64 * q in
              let position : i ≡ 64 * q + j = omega (arith, from, h.begin) in
              let less : j < t = omega (arith, position, before) in
              item-bits_of_at words i q j position (omega (arith, less, lowest.0)) h.inside
              ∙ ap (λ x. eqb x 1) (sym (digit-is j (omega (arith, position, from))) ∙ lowest.2 j less);
        }

    -- and without it the bits after it are left
    pub rest-next : IsRestFrom words (64 * q + trailing_zeros w64 rest + 1) q (bit_and rest (rest - 1))
    rest-next =
        let t = trailing_zeros w64 rest in
        let w = get_or words q 0 in
        let more : s - 64 * q ≤ t + 1 = omega (arith, late) in
        let at : t + 1 ≡ 64 * q + t + 1 - 64 * q = omega arith in
        record {
          inside = h.inside;
          begin = omega arith;
          end = omega (arith, lowest.0);
          is =
              lowest-cleared rest t fits lowest.1 lowest.2
              ∙ ap (λ x. x * 2 ^ (t + 1)) (ap (λ x. x / 2 ^ (t + 1)) h.is ∙ shr-cleared w (s - 64 * q) (t + 1) more)
              ∙ ap (λ k. w / 2 ^ k * 2 ^ k) at;
        }

-- one 1 bit fewer
pub ones-cleared : (w : ℕ) → 0 < w → w < 2 ^ 64 → count_ones (bit_and w (w - 1)) + 1 ≡ count_ones w
ones-cleared w some fits =
    let words = w ∷ [] in
    let p = 64 * 0 + trailing_zeros w64 w in
    let h : IsRestFrom words 0 0 w = record { inside = omega arith; begin = omega arith; end = omega arith; is = omega arith } in
    omega (
      arith,
      rest-ones words 0 0 w h fits,
      rest-ones words (p + 1) 0 (bit_and w (w - 1)) (rest-next words 0 0 w h some fits) fits,
      next_counts (bits_of words) true 0 p (first-left words 0 0 w h some fits),
    )
