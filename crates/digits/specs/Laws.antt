-- What counts of digits are among bits, and among one another.
use Rattle.std.specs.Prelude.{◌≡◌, ℕ, ◌+◌, ◌<◌, ◌≤◌, ◌==◌, ◌↔◌, true, All, List, length, map}
use Rattle.bit_lists.specs.Count.{ones_before, Picks}
use Rattle.digits.specs.Digits.{digits_before, PicksDigit}

-- a digit counts as the 1 bits of the list that says where it is
abbrev pub DigitsAreOnes : Type 0
DigitsAreOnes = (d : ℕ) (digits : List ℕ) (i : ℕ) → digits_before d digits i ≡ ones_before (map (λ x. x == d) digits) i

-- a digit has a rank where that list has a 1 bit of this rank
abbrev pub DigitPicksAreOnes : Type 0
DigitPicksAreOnes =
    (d : ℕ) (digits : List ℕ) (r p : ℕ) → PicksDigit digits d r p ↔ Picks (map (λ x. x == d) digits) true r p

-- among digits below 4, the counts of 0, 1, 2 and 3 up to a position add up to the position
abbrev pub FourCountsAreAll : Type 0
FourCountsAreAll =
    (digits : List ℕ) (i : ℕ) → All (λ x. x < 4) digits → i ≤ length digits
    → digits_before 0 digits i + digits_before 1 digits i + digits_before 2 digits i + digits_before 3 digits i ≡ i
