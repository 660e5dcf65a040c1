-- When a part writes a number, and when it writes none.
use Rattle.std.proofs.Common.{◌≡◌, ℕ, zero, suc, ◌+◌, ◌*◌, ◌^◌, ◌<◌, ◌≤◌, ◌⊎◌, Bool, true, false, cond, ◌&&◌, nat_lt, List, [], ◌∷◌, length, get_or, take, None, Some, is_some, refl, arith}
use Rattle.std.proofs.lemmas.Bool.Decides.{nat_tests}
use Rattle.std.proofs.lemmas.Str.Parse.{digits_value-take-le}
use Rattle.std.proofs.lemmas.Int.Digits.{digits_value_more, digits_more}
use Rattle.std.specs.Char.{digit_value}
use Rattle.std.specs.List.{list_all}
use Rattle.std.specs.Str.Parse.{digits_value, AllDigits}
use Rattle.program_base.specs.Text.{number_of, digit_of}

-- over a variable, so that no tactic opens the value of a digit
some_digit : (radix n d : ℕ) → cond (nat_lt n radix) (Some n) None ≡ Some d → (n < radix) × (n ≡ d)
some_digit radix n d h = grind (arith, nat_tests)

no_digit : (radix n : ℕ) → (n < radix → ⊥) → cond (nat_lt n radix) (Some n) None ≡ None
no_digit radix n h = grind (arith, nat_tests)

a_digit : (radix n d : ℕ) → n < radix → n ≡ d → cond (nat_lt n radix) (Some n) None ≡ Some d
a_digit radix n d h e = grind (arith, nat_tests)

is_some_digit : (radix n : ℕ) → n < radix → is_some (cond (nat_lt n radix) (Some n) None) ≡ true
is_some_digit radix n h = grind (arith, nat_tests)

digit_is : (radix byte d : ℕ) → digit_of radix byte ≡ Some d → (digit_value byte < radix) × (digit_value byte ≡ d)
unfolding digit_of
digit_is radix byte d h = some_digit radix (digit_value byte) d h

digits_pass : (radix : ℕ) (ds : List ℕ) → AllDigits radix ds → list_all (λ byte. is_some (digit_of radix byte)) ds ≡ true
unfolding digit_of
digits_pass radix [] h = refl
digits_pass radix (c ∷ cs) h = rw (is_some_digit radix (digit_value c) h.0) (digits_pass radix cs h.1)

none_after : (b : Bool) → (b && false) ≡ false
none_after b = elim b as (λ v. (v && false) ≡ false) [ true ↦ refl | false ↦ refl ]

digit_fails : (radix : ℕ) (ds : List ℕ) (i : ℕ) → i < length ds → digit_of radix (get_or ds i 0) ≡ None → list_all (λ byte. is_some (digit_of radix byte)) ds ≡ false
digit_fails radix [] i h k = absurd (omega arith)
digit_fails radix (c ∷ cs) zero h k = rw k refl
digit_fails radix (c ∷ cs) (suc i) h k = rw (digit_fails radix cs i (omega arith) k) (none_after (is_some (digit_of radix c)))

-- no number: too few or too many digits, a part that is none, or too large a number
pub number_length : (radix most : ℕ) (ds : List ℕ) → (length ds ≡ 0) ⊎ (most < length ds) → number_of radix most ds ≡ None
unfolding number_of
number_length radix most ds h = grind (arith, nat_tests)

pub number_digit : (radix most : ℕ) (ds : List ℕ) (i : ℕ) → i < length ds → digit_of radix (get_or ds i 0) ≡ None → number_of radix most ds ≡ None
unfolding number_of
number_digit radix most ds i h k = let e = digit_fails radix ds i h k in grind (arith, nat_tests)

number_large : (radix most : ℕ) (ds : List ℕ) → 2 ^ 64 ≤ digits_value radix ds → number_of radix most ds ≡ None
unfolding number_of
number_large radix most ds h = grind (arith, nat_tests)

-- it is too large where it is too large up to some digit
pub number_large_at : (radix most : ℕ) (ds : List ℕ) (i d : ℕ) → 1 ≤ radix → i < length ds → digit_of radix (get_or ds i 0) ≡ Some d
    → 2 ^ 64 ≤ digits_value radix (take i ds) * radix + d → number_of radix most ds ≡ None
number_large_at radix most ds i d low h k large =
    let more = digits_value_more radix ds i h in
    number_large radix most ds (omega (arith, (digit_is radix _ d k).1, digits_value-take-le radix ds (i + 1) low))

pub number_more : (radix : ℕ) (ds : List ℕ) (i d : ℕ) → i < length ds → digit_of radix (get_or ds i 0) ≡ Some d → AllDigits radix (take i ds)
    → (digits_value radix (take i ds) * radix + d ≡ digits_value radix (take (i + 1) ds)) × AllDigits radix (take (i + 1) ds)
number_more radix ds i d h k all =
    let is = digit_is radix (get_or ds i 0) d k in
    (omega (arith, is.1, digits_value_more radix ds i h), digits_more radix ds i h all is.0)

pub number_is : (radix most : ℕ) (ds : List ℕ) → 0 < length ds → length ds ≤ most → AllDigits radix ds → digits_value radix ds < 2 ^ 64 → number_of radix most ds ≡ Some (digits_value radix ds)
unfolding number_of
number_is radix most ds few many h k = let e = digits_pass radix ds h in grind (arith, nat_tests)

-- what `to_digit` gives
pub digit_none : (radix byte : ℕ) → (digit_value byte < radix → ⊥) → digit_of radix byte ≡ None
unfolding digit_of
digit_none radix byte h = let n = digit_value byte in no_digit radix n h

pub digit_some : (radix byte d : ℕ) → digit_value byte < radix → digit_value byte ≡ d → digit_of radix byte ≡ Some d
unfolding digit_of
digit_some radix byte d h e = a_digit radix (digit_value byte) d h e
