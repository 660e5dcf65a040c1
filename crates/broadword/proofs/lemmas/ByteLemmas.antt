-- The bytes of a number as a list, and where, in numbers that fall, those stand that are at least 128.
use Rattle.std.proofs.Common.{◌≡◌, ℕ, zero, suc, ◌+◌, ◌-◌, ◌*◌, ◌/◌, ◌%◌, ◌^◌, ◌<◌, ◌≤◌, cond, nat_le, List, [], ◌∷◌, length, get_or, count_by, refl, sym, ap, ap₂, subst, ◌∙◌, arith, inl, inr, not-suc-le-zero, one-add, le_of_suc-le-suc, suc-le-suc, le-leb}
use Rattle.std.proofs.lemmas.Bool.{cases_lt, lt-leb}
use Rattle.std.proofs.lemmas.List.Sums.{sum_by-cons, count_by-le-length}
use Rattle.std.proofs.lemmas.Nat.{shr-shr, shr_high, mod_low}
use Rattle.broadword.proofs.lemmas.LowBytes.{low_bytes}

-- ---- bytes

pub length-low_bytes : (k n : ℕ) → length (low_bytes k n) ≡ k
unfolding low_bytes
length-low_bytes zero n = refl
length-low_bytes (suc k) n = ap suc (length-low_bytes k (n / 256))

pub get_or-low_bytes : (k i n : ℕ) → i < k → get_or (low_bytes k n) i 0 ≡ n / 2 ^ (8 * i) % 256
unfolding low_bytes
get_or-low_bytes zero i n inside = absurd (not-suc-le-zero inside)
get_or-low_bytes (suc k) zero n inside = let e : n ≡ n / 1 = omega arith in ap (λ m. m % 256) e
get_or-low_bytes (suc k) (suc i) n inside =
    let turned : 8 + 8 * i ≡ 8 * suc i = omega arith in
    get_or-low_bytes k i (n / 256) (le_of_suc-le-suc inside)
    ∙ ap (λ m. m % 256) (shr-shr n 8 (8 * i) ∙ ap (λ j. n / 2 ^ j) turned)

pub low_bytes-cat : (k high low : ℕ) → low < 256 → low_bytes (suc k) (high * 256 + low) ≡ low ∷ low_bytes k high
unfolding low_bytes
low_bytes-cat k high low fits = ap₂ (λ b n. b ∷ low_bytes k n) (mod_low high 8 low fits) (shr_high high 8 low fits)

-- the number that has these bytes, lowest first
unfoldable pub number_of_bytes : List ℕ → ℕ
number_of_bytes [] = 0
number_of_bytes (p ∷ ps) = number_of_bytes ps * 256 + p

abbrev pub AreBytes : List ℕ → Type 0
AreBytes [] = Unit {0}
AreBytes (p ∷ ps) = (p < 256) × AreBytes ps

pub low_bytes-number_of_bytes : (ps : List ℕ) → AreBytes ps → low_bytes (length ps) (number_of_bytes ps) ≡ ps
unfolding low_bytes number_of_bytes
low_bytes-number_of_bytes [] bytes = refl
low_bytes-number_of_bytes (p ∷ ps) bytes =
    low_bytes-cat (length ps) (number_of_bytes ps) p bytes.0 ∙ ap (λ l. p ∷ l) (low_bytes-number_of_bytes ps bytes.1)

-- ---- numbers that fall

-- the first n items are at least b, and the next one is not
abbrev InFront : List ℕ → ℕ → ℕ → Type 0
InFront xs b n = ((i : ℕ) → i < n → b ≤ get_or xs i 0) × (n < length xs → get_or xs n 0 < b)

abbrev Falls : List ℕ → Type 0
Falls xs = (i : ℕ) → suc i < length xs → get_or xs (suc i) 0 ≤ get_or xs i 0

none_in_front : (x : ℕ) (xs : List ℕ) (b : ℕ) → x < b → Falls (x ∷ xs) → count_by (λ s. nat_le b s) (x ∷ xs) ≡ 0
none_in_front x [] b below falls = ap (λ t. 0 + cond t 1 0) (lt-leb b x below)
none_in_front x (y ∷ ys) b below falls =
    let next : y < b = omega (arith, falls 0 (omega arith)) in
    let rest = none_in_front y ys b next (λ i l. falls (suc i) (suc-le-suc l)) in
    sum_by-cons (λ s. cond (nat_le b s) 1 0) x (y ∷ ys) ∙ ap₂ (λ t u. cond t 1 0 + u) (lt-leb b x below) rest

front_count : (xs : List ℕ) (b : ℕ) → Falls xs → InFront xs b (count_by (λ s. nat_le b s) xs)
front_count [] b falls = (λ i h. absurd (not-suc-le-zero h), λ h. absurd (not-suc-le-zero h))
front_count (x ∷ xs) b falls =
    elim (cases_lt x b) [
      | inl below ↦
          let e = none_in_front x xs b below falls in
          subst (InFront (x ∷ xs) b) (sym e) (λ i h. absurd (not-suc-le-zero h), λ h. below)
      | inr from ↦
          let rest = front_count xs b (λ i l. falls (suc i) (suc-le-suc l)) in
          let n = count_by (λ s. nat_le b s) xs in
          let counted = sum_by-cons (λ s. cond (nat_le b s) 1 0) x xs ∙ ap (λ t. cond t 1 0 + n) (le-leb b x from) ∙ one-add n in
          let each : (i : ℕ) → i < suc n → b ≤ get_or (x ∷ xs) i 0 =
          elim [ zero ↦ λ h. from | suc i ↦ λ h. rest.0 i (le_of_suc-le-suc h) ] in
          subst (InFront (x ∷ xs) b) (sym counted) (each, λ h. rest.1 (le_of_suc-le-suc h))
    ]

-- g rises, and the items are 128 and what g at 1 to m leaves of r
pub record AreLeftBy (g : ℕ → ℕ) (m r : ℕ) (xs : List ℕ) : Type 0 where
  pub size : length xs ≡ m
  pub items : (k : ℕ) → k < m → get_or xs k 0 ≡ 128 + r - g (suc k)
  pub rises : (k : ℕ) → k < m → g k ≤ g (suc k)

-- where c of the items are at least 128, r is at least g c and below g (suc c)
module _ (g : ℕ → ℕ) (m r : ℕ) (xs : List ℕ) (left : AreLeftBy g m r xs) where
  open left use {size, items, rises}

  falling : Falls xs
  falling i inside = omega (arith, size, items i (omega (arith, size)), items (suc i) (omega (arith, size)), rises (suc i) (omega (arith, size)))

  up_to : (c : ℕ) → c ≤ m → g 0 ≤ r → ((i : ℕ) → i < c → 128 ≤ get_or xs i 0) → g c ≤ r
  up_to zero inside low each = low
  up_to (suc i) inside low each = omega (arith, each i (omega arith), items i (omega arith))

  pub located : (c : ℕ) → g 0 ≤ r → r < g (suc m) → c ≡ count_by (λ s. nat_le 128 s) xs → (c ≤ m) × (g c ≤ r) × (r < g (suc c))
  located c low high counted =
      let front = subst (InFront xs 128) (sym counted) (front_count xs 128 falling) in
      let inside : c ≤ m = omega (arith, size, counted, count_by-le-length (λ s. nat_le 128 s) xs) in
      let next : r < g (suc c) =
      elim (cases_lt c m) [
        | inl some ↦ omega (arith, front.1 (omega (arith, size)), items c some)
        | inr all ↦ let last : m ≡ c = omega arith in omega (arith, ap (λ k. g (suc k)) last)
      ] in
      (inside, up_to c inside low front.0, next)
