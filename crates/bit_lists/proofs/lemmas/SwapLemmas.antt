-- Numbers written at two positions: what a write leaves as it was, and numbers that change places twice.
use Rattle.std.proofs.Common.{◌≡◌, ℕ, ◌+◌, ◌-◌, ◌*◌, ◌<◌, ◌≤◌, Bool, List, length, sym, ap, ap₂, subst, ◌∙◌, ⊎_elim, arith, ◌≢◌, ◌⊎◌, inl, inr}
use Rattle.std.proofs.lemmas.Bool.{cases_lt, cases_eq, cases_order}
use Rattle.std.proofs.lemmas.Nat.{row_fits}
use Rattle.std.proofs.lemmas.Nat.Bits.{same_from_bits_below}
use Rattle.bit_lists.proofs.lemmas.BitsLemmas.{same_bits}
use Rattle.bit_lists.proofs.lemmas.NumberLemmas.{number_at-lt, bit_at-number_at, length-with_number, item-with_number_below, item-with_number_inside, item-with_number_above, number_at-with_number, with_number-number_at}
use Rattle.bit_lists.proofs.lemmas.WordLemmas.{truth}
use Rattle.bit_lists.specs.Bits.{digit, item}
use Rattle.bit_lists.specs.Number.{number_at, with_number, with_swapped}

-- a list with the items of b outside n items from s on, and there the digits of v
with_number_from_items : (b c : List Bool) (s n v : ℕ) → s + n ≤ length b → length c ≡ length b
    → ((i : ℕ) → i < length b → (i < s) ⊎ (s + n ≤ i) → item c i ≡ item b i)
    → ((k : ℕ) → k < n → item c (s + k) ≡ digit v k)
    → c ≡ with_number b s n v
with_number_from_items b c s n v within len outside inside =
    same_bits c (with_number b s n v) (omega (arith, len, length-with_number b s n v within))
    (λ i l.
    let short : i < length b = omega (arith, len) in
    ⊎_elim
    (λ before. outside i short (inl before) ∙ sym (item-with_number_below b s n v i within before))
    (λ from.
    ⊎_elim
    (λ there.
    let k = i - s in
    let at : s + k ≡ i = omega arith in
    let P : ℕ → Type 0 = λ j. item c j ≡ item (with_number b s n v) j in
    subst P at (inside k (omega arith) ∙ sym (item-with_number_inside b s n v k within (omega arith))))
    (λ after. outside i short (inr after) ∙ sym (item-with_number_above b s n v i within after))
    (cases_lt i (s + n)))
    (cases_lt i s))

item-with_number_outside : (b : List Bool) (s n v i : ℕ) → s + n ≤ length b → (i < s) ⊎ (s + n ≤ i)
    → item (with_number b s n v) i ≡ item b i
item-with_number_outside b s n v i within where_ =
    ⊎_elim (λ before. item-with_number_below b s n v i within before) (λ after. item-with_number_above b s n v i within after) where_

-- of two writes to one position the second stays
pub with_number-with_number : (b : List Bool) (s n u v : ℕ) → s + n ≤ length b
    → with_number (with_number b s n u) s n v ≡ with_number b s n v
with_number-with_number b s n u v within =
    with_number_from_items b (with_number (with_number b s n u) s n v) s n v within
    (length-with_number (with_number b s n u) s n v room ∙ len)
    (λ i l out. item-with_number_outside (with_number b s n u) s n v i room out ∙ item-with_number_outside b s n u i within out)
    (λ k l. item-with_number_inside (with_number b s n u) s n v k room l)
  where
    len : length (with_number b s n u) ≡ length b
    len = length-with_number b s n u within

    room : s + n ≤ length (with_number b s n u)
    room = omega (arith, len)

-- n items from s on, and m from t on, have no item in common
abbrev pub Apart : ℕ → ℕ → ℕ → ℕ → Type 0
Apart s n t m = (s + n ≤ t) ⊎ (t + m ≤ s)

Apart-turned : (s n t m : ℕ) → Apart s n t m → Apart t m s n
Apart-turned s n t m apart = ⊎_elim (λ l. inr l) (λ l. inl l) apart

outside_of : (s n t m k : ℕ) → Apart s n t m → k < m → (t + k < s) ⊎ (s + n ≤ t + k)
outside_of s n t m k apart l = ⊎_elim (λ before. inr (omega arith)) (λ after. inl (omega arith)) apart

-- a number that stands apart from a write
pub number_at-with_number_apart : (b : List Bool) (s n v t m : ℕ) → s + n ≤ length b → t + m ≤ length b → Apart s n t m
    → number_at (with_number b s n v) t m ≡ number_at b t m
number_at-with_number_apart b s n v t m within room apart =
    same_from_bits_below m (number_at (with_number b s n v) t m) (number_at b t m)
    (number_at-lt (with_number b s n v) t m (omega (arith, length-with_number b s n v within)))
    (number_at-lt b t m room)
    (λ k l.
    bit_at-number_at (with_number b s n v) t m k l
    ∙ ap truth (item-with_number_outside b s n v (t + k) within (outside_of s n t m k apart l))
    ∙ sym (bit_at-number_at b t m k l))

-- writes that stand apart, in either order
pub with_number-with_number_apart : (b : List Bool) (s n u t m v : ℕ) → s + n ≤ length b → t + m ≤ length b → Apart s n t m
    → with_number (with_number b s n u) t m v ≡ with_number (with_number b t m v) s n u
with_number-with_number_apart b s n u t m v within room apart =
    with_number_from_items c (with_number first t m v) s n u (omega (arith, of_c))
    (length-with_number first t m v fits ∙ of_first ∙ sym of_c)
    (λ i l out.
    ⊎_elim
    (λ here.
    item-with_number_outside first t m v i fits here
    ∙ item-with_number_outside b s n u i within out
    ∙ sym (item-with_number_outside b t m v i room here))
    (λ there.
    let k = i - t in
    let at : t + k ≡ i = omega arith in
    let P : ℕ → Type 0 = λ j. item (with_number first t m v) j ≡ item c j in
    subst P at (item-with_number_inside first t m v k fits (omega arith) ∙ sym (item-with_number_inside b t m v k room (omega arith))))
    (sides i))
    (λ k l.
    item-with_number_outside first t m v (s + k) fits (outside_of t m s n k (Apart-turned s n t m apart) l)
    ∙ item-with_number_inside b s n u k within l)
  where
    first : List Bool
    first = with_number b s n u

    c : List Bool
    c = with_number b t m v

    of_first : length first ≡ length b
    of_first = length-with_number b s n u within

    of_c : length c ≡ length b
    of_c = length-with_number b t m v room

    fits : t + m ≤ length first
    fits = omega (arith, of_first)

    sides : (i : ℕ) → ((i < t) ⊎ (t + m ≤ i)) ⊎ ((t ≤ i) × (i < t + m))
    sides i =
        ⊎_elim (λ before. inl (inl before))
        (λ from. ⊎_elim (λ there. inr (from, there)) (λ after. inl (inr after)) (cases_lt i (t + m)))
        (cases_lt i t)

-- ---- fragments that change places

pub with_swapped-itself : (b : List Bool) (i width : ℕ) → i * width + width ≤ length b → with_swapped b i i width ≡ b
with_swapped-itself b i width within =
    with_number-with_number b (i * width) width (number_at b (i * width) width) (number_at b (i * width) width) within
    ∙ with_number-number_at b (i * width) width within

-- the numbers x and y at s and t, put in each other's position, and then in each other's position again
module _ (b : List Bool) (s t n : ℕ) (within : s + n ≤ length b) (room : t + n ≤ length b) (apart : Apart s n t n) where
  abbrev x : ℕ
  x = number_at b s n

  abbrev y : ℕ
  y = number_at b t n

  abbrev first : List Bool
  first = with_number b s n y

  abbrev once : List Bool
  once = with_number first t n x

  of_first : length first ≡ length b
  of_first = length-with_number b s n y within

  x_at_t : number_at once t n ≡ x
  x_at_t = number_at-with_number first t n x (omega (arith, of_first)) (number_at-lt b s n within)

  y_at_s : number_at once s n ≡ y
  y_at_s =
      number_at-with_number_apart first t n x s n (omega (arith, of_first)) (omega (arith, of_first)) (Apart-turned s n t n apart)
      ∙ number_at-with_number b s n y within (number_at-lt b t n room)

  -- x is back at s
  half : with_number once s n x ≡ with_number b t n x
  half =
      with_number-with_number_apart first t n x s n x (omega (arith, of_first)) (omega (arith, of_first)) (Apart-turned s n t n apart)
      ∙ ap (λ c. with_number c t n x) (with_number-with_number b s n y x within ∙ with_number-number_at b s n within)

  pub swapped_back : with_number (with_number once s n (number_at once t n)) t n (number_at once s n) ≡ b
  swapped_back =
      ap₂ (λ u v. with_number (with_number once s n u) t n v) x_at_t y_at_s
      ∙ ap (λ c. with_number c t n y) half
      ∙ with_number-with_number b t n x y room
      ∙ with_number-number_at b t n room

fragments_apart : (i j width : ℕ) → i ≢ j → Apart (i * width) width (j * width) width
fragments_apart i j width apart =
    ⊎_elim (λ e. absurd (apart e))
    (λ order. ⊎_elim (λ l. inl (row_fits i width j width l (omega arith))) (λ l. inr (row_fits j width i width l (omega arith))) order)
    (cases_order i j)

swapped_with_itself_twice : (b : List Bool) (i width : ℕ) → i * width + width ≤ length b
    → with_swapped (with_swapped b i i width) i i width ≡ b
swapped_with_itself_twice b i width within =
    ap (λ c. with_swapped c i i width) (with_swapped-itself b i width within) ∙ with_swapped-itself b i width within

swapped_apart_twice : (b : List Bool) (i j width : ℕ) → i * width + width ≤ length b → j * width + width ≤ length b → i ≢ j
    → with_swapped (with_swapped b i j width) i j width ≡ b
swapped_apart_twice b i j width within room apart =
    swapped_back b (i * width) (j * width) width within room (fragments_apart i j width apart)

pub with_swapped-with_swapped : (b : List Bool) (i j width : ℕ) → i * width + width ≤ length b → j * width + width ≤ length b
    → with_swapped (with_swapped b i j width) i j width ≡ b
with_swapped-with_swapped b i j width within room =
    ⊎_elim
    (λ same.
    let P : ℕ → Type 0 = λ k. with_swapped (with_swapped b i k width) i k width ≡ b in
    subst P same (swapped_with_itself_twice b i width within))
    (λ apart. swapped_apart_twice b i j width within room apart)
    (cases_eq i j)
