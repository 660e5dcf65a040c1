-- The samples of a content one by one, and where each lets selection begin.
use Rattle.std.proofs.Common.{◌≡◌, ℕ, zero, suc, ◌+◌, ◌-◌, ◌*◌, ◌/◌, ◌%◌, ◌^◌, ◌<◌, ◌≤◌, Bool, true, false, List, [], ◌∷◌, ◌++◌, flat_map, sum_by, length, get_or, take, nat_lt, nat_eq, if◌then◌else◌, arith, refl, sym, ap, ap₂, ◌∙◌, subst, inl, inr, add-one, pow-suc, shr-shr, length-append, append-nil}
use Rattle.std.proofs.Math.Nat.{mul-le-mul_right}
use Rattle.std.proofs.lemmas.Nat.{pow_pos}
use Rattle.std.proofs.lemmas.Grind.{div_ceil_times, flat_map-append}
use Rattle.std.proofs.lemmas.List.FromFn.{length-range_with_len, get_or-range_with_len, length-map-range_with_len, get_or-map-range_with_len}
use Rattle.std.proofs.lemmas.List.Concat.{get_or-flat_map}
use Rattle.std.proofs.lemmas.List.Sums.{sum_by-append, sum_by-cons}
use Rattle.std.proofs.lemmas.Bool.{cases_lt, eqb-true}
use borrow.Author.Tests.{ltb-true}
use Rattle.std.specs.Int.{div_ceil}
use Rattle.std.specs.List.{range_with_len}
use Rattle.bit_lists.specs.Count.{count_of, count_before}
use Rattle.bitm_strategies.specs.Samples.{part_of, parts, entry_of, distance, sample, intervals, part_samples, first_item, walk_start, samples_of_parts, sample_count_before, samples_of, sample_starts_of}
use Rattle.bitm_strategies.proofs.lemmas.PartLemmas.{entry_last, last_least, count_before-between}

-- ---- numbers in a row

row_last : (a n : ℕ) → range_with_len a (suc n) ≡ range_with_len a n ++ (a + n) ∷ []
row_last a zero = ap (λ (m : ℕ). m ∷ []) {x = a} {y = a + 0} (omega arith)
row_last a (suc n) =
    ap (λ (l : List ℕ). a ∷ l) (row_last (a + 1) n)
    ∙ ap (λ (m : ℕ). (a ∷ range_with_len (a + 1) n) ++ m ∷ []) {x = a + 1 + n} {y = a + suc n} (omega arith)

row_more : (n : ℕ) → range_with_len 0 (n + 1) ≡ range_with_len 0 n ++ n ∷ []
row_more n =
    ap (range_with_len 0) (add-one n) ∙ row_last 0 n ∙ ap (λ (m : ℕ). range_with_len 0 n ++ m ∷ []) {x = 0 + n} {y = n} (omega arith)

take_row : (a n k : ℕ) → k ≤ n → take k (range_with_len a n) ≡ range_with_len a k
take_row a n zero h = refl
take_row a zero (suc k) h = absurd (omega arith)
take_row a (suc n) (suc k) h = ap (λ (l : List ℕ). a ∷ l) (take_row (a + 1) n k (omega arith))

-- ---- division rounded up

pub ceil_more : (i n m : ℕ) → 0 < m → i * m < n → i < div_ceil n m
ceil_more i n m some h =
    elim (cases_lt i (div_ceil n m)) [
      | inl l ↦ l
      | inr g ↦ absurd (omega (arith, (div_ceil_times n m some).0, mul-le-mul_right m g))
    ]

pub ceil_less : (i n m : ℕ) → 0 < m → i < div_ceil n m → i * m < n
ceil_less i n m some h = let g : i + 1 ≤ div_ceil n m = omega arith in omega (arith, (div_ceil_times n m some).1, mul-le-mul_right m g)

-- ---- how many samples there are before a part

module _ (b : List Bool) (v : Bool) (d : ℕ) where
  pub before_more : (k : ℕ) → sample_count_before b v d (k + 1) ≡ sample_count_before b v d k + intervals (part_of b k) v d
  before_more k =
      let f = λ (p : ℕ). intervals (part_of b p) v d in
      ap (sum_by f) (row_more k)
      ∙ sum_by-append f (range_with_len 0 k) (k ∷ [])
      ∙ ap (λ (n : ℕ). sum_by f (range_with_len 0 k) + n) (sum_by-cons f k [] ∙ omega arith)

  before_rises : (j n : ℕ) → sample_count_before b v d j ≤ sample_count_before b v d (j + n)
  before_rises j zero = let e : j + 0 ≡ j = omega arith in rw e (omega arith)
  before_rises j (suc n) =
      let e : j + suc n ≡ j + n + 1 = omega arith in rw e (omega (arith, before_more (j + n), before_rises j n))

  pub before_le : (j k : ℕ) → j ≤ k → sample_count_before b v d j ≤ sample_count_before b v d k
  before_le j k h =
      let e : k ≡ j + (k - j) = omega arith in
      subst (λ (n : ℕ). sample_count_before b v d j ≤ sample_count_before b v d n) (sym e) (before_rises j (k - j))

  pub samples_more : (k : ℕ) → samples_of_parts b v d (k + 1) ≡ samples_of_parts b v d k ++ part_samples (part_of b k) v d
  samples_more k =
      let f = λ (p : ℕ). part_samples (part_of b p) v d in
      ap (flat_map f) (row_more k)
      ∙ flat_map-append f (range_with_len 0 k) (k ∷ [])
      ∙ ap (λ (l : List ℕ). flat_map f (range_with_len 0 k) ++ l) (append-nil (part_samples (part_of b k) v d))

  length-part_samples : (k : ℕ) → length (part_samples (part_of b k) v d) ≡ intervals (part_of b k) v d
  length-part_samples k =
      length-map-range_with_len (λ (j : ℕ). sample (part_of b k) v d (j * 2 ^ d)) 0 (intervals (part_of b k) v d)

  pub length-samples : (k : ℕ) → length (samples_of_parts b v d k) ≡ sample_count_before b v d k
  length-samples zero = refl
  length-samples (suc k) =
      let e : suc k ≡ k + 1 = omega arith in
      ap (λ (n : ℕ). length (samples_of_parts b v d n)) e
      ∙ ap length (samples_more k)
      ∙ length-append (samples_of_parts b v d k) (part_samples (part_of b k) v d)
      ∙ ap₂ ◌+◌ (length-samples k) (length-part_samples k)
      ∙ sym (before_more k)
      ∙ ap (sample_count_before b v d) (sym e)

  pub length-starts : length (sample_starts_of b v d) ≡ parts b
  length-starts = length-map-range_with_len (sample_count_before b v d) 0 (parts b)

  pub start_at : (k : ℕ) → k < parts b → get_or (sample_starts_of b v d) k 0 ≡ sample_count_before b v d k
  start_at k h = get_or-map-range_with_len (sample_count_before b v d) 0 (parts b) k k 0 h (omega arith)

  -- the sample of an interval of a part
  pub sample_at : (k i : ℕ) → k < parts b → i < intervals (part_of b k) v d
      → get_or (samples_of b v d) (sample_count_before b v d k + i) 0 ≡ sample (part_of b k) v d (i * 2 ^ d)
  sample_at k i h l =
      let f = λ (p : ℕ). part_samples (part_of b p) v d in
      let row = range_with_len 0 (parts b) in
      let at : get_or row k 0 ≡ k = get_or-range_with_len 0 (parts b) k 0 h ∙ omega arith in
      let before : length (flat_map f (take k row)) ≡ sample_count_before b v d k =
      ap (λ (r : List ℕ). length (flat_map f r)) (take_row 0 (parts b) k (omega arith)) ∙ length-samples k in
      let inside : k < length row = omega (arith, length-range_with_len 0 (parts b)) in
      let within : i < length (f (get_or row k 0)) =
      subst (λ (p : ℕ). i < length (part_samples (part_of b p) v d)) (sym at) (omega (arith, length-part_samples k)) in
      ap (λ (n : ℕ). get_or (samples_of b v d) (n + i) 0) (sym before)
      ∙ get_or-flat_map f row k i 0 0 inside within
      ∙ ap (λ (p : ℕ). get_or (part_samples (part_of b p) v d) i 0) at
      ∙ get_or-map-range_with_len (λ (j : ℕ). sample (part_of b k) v d (j * 2 ^ d)) 0 (intervals (part_of b k) v d) i i 0 l (omega arith)

-- ---- a rank and its interval

pub first_item_is : (d r : ℕ) → first_item d r ≡ r / 2 ^ d * 2 ^ d
first_item_is d r = omega (arith, pow_pos d)

middle_of : (q h x : ℕ) → q % 2 ≡ 1 → h ≡ q / 2 → q * x ≡ h * (x * 2) + x
middle_of q h x odd half = let e : q ≡ 2 * h + 1 = omega arith in ap (λ (z : ℕ). z * x) e ∙ omega arith

-- in the second half of an interval, the middle is half an interval after the first
middle_is : (m r : ℕ) → r / 2 ^ m % 2 ≡ 1 → first_item m r ≡ first_item (suc m) r + 2 ^ m
middle_is m r h =
    let half : r / 2 ^ suc m ≡ r / 2 ^ m / 2 = sym (shr-shr r m 1 ∙ ap (λ (k : ℕ). r / 2 ^ k) (add-one m)) in
    first_item_is m r
    ∙ middle_of (r / 2 ^ m) (r / 2 ^ suc m) (2 ^ m) h half
    ∙ ap (λ (x : ℕ). r / 2 ^ suc m * x + 2 ^ m) (sym (pow-suc 2 m))
    ∙ ap (λ (x : ℕ). x + 2 ^ m) (sym (first_item_is (suc m) r))

by_test : {P : Type 0} (x : Bool) → (x ≡ true → P) → (x ≡ false → P) → P
by_test true f g = f refl
by_test false f g = g refl

-- the start s stands no later than the entry of an item x of rank at most r
record Reaches (c : List Bool) (v : Bool) (r s x : ℕ) : Type 0 where
  pub at_most : x ≤ r
  pub some : x < count_of c v
  pub order : s ≤ entry_of c v x

entry_rises : (c : List Bool) (v : Bool) (t q : ℕ) → t ≤ q → q < count_of c v → entry_of c v t ≤ entry_of c v q
entry_rises c v t q h l =
    let e = entry_last c v t (omega arith) in
    last_least (λ j. count_before c v (2048 * j)) (λ i j h. count_before-between v c (2048 * i) (2048 * j) (omega arith))
    (div_ceil (length c) 2048) q (entry_of c v q) (entry_last c v q l) (entry_of c v t) e.inside (omega (arith, e.at_most))

module _ (c : List Bool) (v : Bool) (d r : ℕ) (pos : 1 ≤ d) where
  middle_at : nat_eq (r / 2 ^ (d - 1) % 2) 1 ≡ true → first_item (d - 1) r ≡ first_item d r + 2 ^ (d - 1)
  middle_at h =
      let e : suc (d - 1) ≡ d = omega arith in
      subst (λ (n : ℕ). first_item (d - 1) r ≡ first_item n r + 2 ^ (d - 1)) e
      (middle_is (d - 1) r (eqb-true (r / 2 ^ (d - 1) % 2) 1 h))

  half_start : first_item d r < count_of c v → nat_eq (r / 2 ^ (d - 1) % 2) 1 ≡ true
      → (x : ℕ) × Reaches c v r (entry_of c v (first_item d r) + distance c v (first_item d r) (first_item (d - 1) r)) x
  half_start some h =
      let t = first_item d r in
      let q = first_item (d - 1) r in
      let up : t ≤ q = omega (arith, middle_at h) in
      by_test (nat_lt q (count_of c v))
      (λ is.
      let l : q < count_of c v = ltb-true q (count_of c v) is in
      (q, record { at_most = omega arith; some = l; order = rw is (omega (arith, entry_rises c v t q up l)) }))
      (λ is. (t, record { at_most = omega arith; some = some; order = rw is (omega arith) }))

  start_reaches : first_item d r < count_of c v → (x : ℕ) × Reaches c v r (walk_start c v d r) x
  start_reaches some =
      let t = first_item d r in
      by_test (nat_eq (r / 2 ^ (d - 1) % 2) 1)
      (λ is.
      let e : walk_start c v d r ≡ entry_of c v t + distance c v t (first_item (d - 1) r) = rw is in
      subst (λ (s : ℕ). (x : ℕ) × Reaches c v r s x) (sym e) (half_start some is))
      (λ is.
      let e : walk_start c v d r ≡ entry_of c v t + 0 = rw is in
      subst (λ (s : ℕ). (x : ℕ) × Reaches c v r s x) (sym e) (t, record { at_most = omega arith; some = some; order = omega arith }))

  -- so it is an entry of the part, with no more than r items before it
  pub start_inside : first_item d r < count_of c v → walk_start c v d r < div_ceil (length c) 2048
  start_inside some = let x = start_reaches some in omega (arith, x.1.order, (entry_last c v x.0 x.1.some).inside)

  pub start_at_most : first_item d r < count_of c v → count_before c v (2048 * walk_start c v d r) ≤ r
  start_at_most some =
      let x = start_reaches some in
      let rises = count_before-between v c (2048 * walk_start c v d r) (2048 * entry_of c v x.0) (omega (arith, x.1.order)) in
      omega (arith, x.1.at_most, (entry_last c v x.0 x.1.some).at_most, rises)

  -- what the code reads of a sample
  pub decoded : (s : ℕ) → s ≡ sample c v d (first_item d r) → entry_of c v (first_item d r) < 2 ^ 21
      → s % 2 ^ 21 + (if nat_eq (r / 2 ^ (d - 1) % 2) 1 then s / 2 ^ 21 else 0) ≡ walk_start c v d r
  decoded s is small =
      let low : s % 2 ^ 21 ≡ entry_of c v (first_item d r) = omega (arith, is) in
      let up : s / 2 ^ 21 ≡ distance c v (first_item d r) (first_item d r + 2 ^ (d - 1)) = omega (arith, is) in
      by_test (nat_eq (r / 2 ^ (d - 1) % 2) 1)
      (λ h. rw h (omega (arith, low, up, ap (distance c v (first_item d r)) (middle_at h))))
      (λ h. rw h (omega (arith, low)))
