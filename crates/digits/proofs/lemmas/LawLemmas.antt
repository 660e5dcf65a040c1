-- What ranks of digits are among bits, and what their counts add up to.
use Rattle.std.proofs.Common.{◌≡◌, ℕ, zero, suc, ◌+◌, ◌<◌, ◌≤◌, ◌==◌, ◌↔◌, Bool, true, false, All, List, length, get_or, map, refl, sym, ap, ◌∙◌, arith}
use Rattle.std.proofs.lemmas.Bool.{eqb-true, eq-eqb}
use Rattle.std.proofs.lemmas.List.{length-map, get_or-map}
use Rattle.std.proofs.lemmas.List.Elements.{All-get_or}
use Rattle.bit_lists.proofs.lemmas.WordLemmas.{truth}
use Rattle.bit_lists.specs.Count.{Picks}
use Rattle.digits.specs.Digits.{digits_before, PicksDigit}
use Rattle.digits.proofs.lemmas.DigitLemmas.{digits_are_ones, digits_before_none, digits_before_more, by_digit}

pub digit_picks_are_ones : (d : ℕ) (digits : List ℕ) (r p : ℕ) → PicksDigit digits d r p ↔ Picks (map (λ x. x == d) digits) true r p
digit_picks_are_ones d digits r p =
    let f : ℕ → Bool = λ x. x == d in
    let len : length (map f digits) ≡ length digits = length-map digits f in (
      λ there. record {
        inside = omega (arith, there.inside, len);
        item = get_or-map f digits p 0 false there.inside ∙ eq-eqb (get_or digits p 0) d there.digit;
        before = sym (digits_are_ones d digits p) ∙ there.before;
      },
      λ there.
          let inside : p < length digits = omega (arith, there.inside, len) in
          record {
            inside = inside;
            digit = eqb-true (get_or digits p 0) d (sym (get_or-map f digits p 0 false inside) ∙ there.item);
            before = digits_are_ones d digits p ∙ there.before;
          },
    )

-- a digit below 4 is one of the four
one_of_four : (x : ℕ) → x < 4 → truth (x == 0) + truth (x == 1) + truth (x == 2) + truth (x == 3) ≡ 1
one_of_four x low = by_digit (λ y. truth (y == 0) + truth (y == 1) + truth (y == 2) + truth (y == 3) ≡ 1) refl refl refl refl x low

pub four_counts_are_all : (digits : List ℕ) (i : ℕ) → All (λ x. x < 4) digits → i ≤ length digits
    → digits_before 0 digits i + digits_before 1 digits i + digits_before 2 digits i + digits_before 3 digits i ≡ i
four_counts_are_all digits zero low inside =
    omega (arith, digits_before_none 0 digits, digits_before_none 1 digits, digits_before_none 2 digits, digits_before_none 3 digits)
four_counts_are_all digits (suc i) low inside =
    let e : suc i ≡ i + 1 = omega arith in
    let within : i < length digits = omega (arith, inside) in
    let more : (d : ℕ) → digits_before d digits (suc i) ≡ digits_before d digits i + truth (get_or digits i 0 == d) =
    λ d. ap (digits_before d digits) e ∙ digits_before_more d digits i within in
    omega (
      arith,
      more 0,
      more 1,
      more 2,
      more 3,
      one_of_four (get_or digits i 0) (All-get_or (λ x. x < 4) digits i 0 within low),
      four_counts_are_all digits i low (omega (arith, inside)),
    )
